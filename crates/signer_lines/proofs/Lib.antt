pub mod SignedRequests

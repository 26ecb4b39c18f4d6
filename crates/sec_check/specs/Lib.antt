pub mod Indexes
pub mod Marks
pub mod RecordSets
pub mod Reports
pub mod SectionRecords
pub mod Sections

-- What contracts see of an answer that is to be signed.
use Rattle.sec_tsig.specs.declared.response_context.Reply.{Reply as DeclaredReply}
use Rattle.sec_tsig.specs.declared.response_context.Reply.TheVariants as replies
use Rattle.sec_tsig.specs.Responses.{Reply, Signed, WithServerTime, WrongMac, WrongKey}

abbrev pub reply_view : DeclaredReply → Reply
reply_view (replies.Signed signer request_mac error) = Signed signer request_mac.items error
reply_view (replies.WithServerTime signer request_mac server_time) = WithServerTime signer request_mac.items server_time
reply_view (replies.WrongMac signer) = WrongMac signer
reply_view (replies.WrongKey alloc owner) = WrongKey owner

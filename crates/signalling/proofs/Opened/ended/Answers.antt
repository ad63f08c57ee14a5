use Rattle.signalling.proofs.GroupTaken.{ends_wrong, ends}
use Rattle.signalling.proofs.Opened.ended.Goals as goal

pub returns-then-sum-sent : goal.returns-then-sum-sent
returns-then-sum-sent c = ends_wrong _ _ c.requires.1 c.requires.0 c.more-sum.ensures c.from_be_bytes-sent.ensures c.no_message-message.ensures c.if-sum-sent.true

pub returns : goal.returns
returns c = ends _ _ c.requires.1 c.requires.0 c.more-sum.ensures c.from_be_bytes-sent.ensures c.no_message-message.ensures c.if-sum-sent.false c.from.ensures

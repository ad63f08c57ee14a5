use Rattle.std.proofs.Common.{rules, ◌≡◌}
use Rattle.sum.specs.Sum.{sent}
use Rattle.sending.proofs.Stored.{end_put}
use Rattle.sending.proofs.put_end.Goals as goal

pub returns : goal.returns
returns c =
    let pair : c.to_be_bytes.result ≡ sent c.sum-sum.result = search rules in
    end_put _ _ _ _ _ _ c.args.at _ c.requires.0 c.requires.1 c.put_bytes.ensures c.put_bytes-2.ensures c.sum-sum.ensures pair c.put_bytes-3.ensures

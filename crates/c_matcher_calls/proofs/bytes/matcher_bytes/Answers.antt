use Rattle.c_matcher_calls.proofs.Spelled.{put}
use borrow.Author.Rules.{rules}
use Rattle.c_matcher_calls.proofs.bytes.matcher_bytes.Goals as goal

pub returns : goal.returns
returns c =
    let a = c.args in
    put a.m (search rules) c.bit.ensures c.bit-2.ensures c.bit-3.ensures c.bit-4.ensures

use mathlib.Core.Path.{sym}
use Prim.Native.Nat.{◌+◌, ◌-◌}
use native.Mathlib.Omega.{arith}
use lib.ListN.{length, take, drop}
use lib.Seq.{length-take-le}
use Rattle.cuttrace_lib.proofs.Answers.{file-fits, state-short, ending-shown}
use Rattle.cuttrace_lib.proofs.Texts.{part-long}
use Rattle.cuttrace_lib.proofs.printing.print_ending.Goals as goal

pub slice_bounds-print_file-end : goal.slice_bounds-print_file-end
slice_bounds-print_file-end c = sym (length-take-le (5 + c.args.memory) c.args.ending.now (omega (arith, c.requires.ending_len)))

pub print_file-n-requires : goal.print_file-n-requires
print_file-n-requires c = let l = length-take-le (5 + c.args.memory) c.args.ending.now (omega (arith, c.requires.ending_len)) in record { in_bounds = omega (arith, l); answer_in_bounds = omega (arith, l, c.requires) }

pub slice_bounds-print_state-count-2 : goal.slice_bounds-print_state-count-2
slice_bounds-print_state-count-2 c = omega (arith, c.print_file-n.ensures.0, file-fits c.args.memory c.args.ending.now c.requires.ending_len, c.out-1.given, c.requires)

pub slice_bounds-print_state-start-2 : goal.slice_bounds-print_state-start-2
slice_bounds-print_state-start-2 c = omega (arith, c.print_file-n.ensures.0, file-fits c.args.memory c.args.ending.now c.requires.ending_len, c.out-1.given, c.requires)

pub print_state-requires : goal.print_state-requires
print_state-requires c =
    let s = c in
    let a = s.args in
    let f = c.print_file-n in
    let l = part-long a.ending.now (5 + a.memory) in
    record { answer_len = omega (arith, l, s.requires.ending_len); answer_in_bounds = omega (arith, l, part-long f.new.out f.result, f.ensures.0, file-fits a.memory a.ending.now s.requires.ending_len, c.out-1.given, s.requires) }

pub overflow_add-result : goal.overflow_add-result
overflow_add-result c =
    let s = c in
    let a = s.args in
    omega (arith, c.print_file-n.ensures.0, file-fits a.memory a.ending.now s.requires.ending_len, c.print_state.ensures.0, state-short (take (length a.ending.now - (5 + a.memory)) (drop (5 + a.memory) a.ending.now)), s.requires, s.well_formed)

pub returns : goal.returns
returns c = ending-shown c.args.memory c.args.ending.now c.args.out.now c.print_file-n.new.out c.print_state.new.out c.print_file-n.result c.print_state.result c.requires.ending_len (omega (arith, c.print_file-n.ensures.0, file-fits c.args.memory c.args.ending.now c.requires.ending_len, c.requires)) c.print_file-n.ensures c.print_state.ensures

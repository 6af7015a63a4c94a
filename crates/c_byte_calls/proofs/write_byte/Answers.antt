-- `c_byte_calls::write_byte` meets its contract. Assumes nothing.
use mathlib.Core.Path.{sym, ap, ap₂, ◌∙◌}
use mathlib.Core.List.{List}
use Prim.Native.Nat.{ℕ}
use lib.ListN.{length}
use Rattle.kind.specs.declared.SaveType.{SaveType}
use Rattle.kind.specs.Kind.{memory_size}
use Rattle.flash.specs.declared.Flash.{Flash}
use Rattle.byte_step.specs.ByteStep.{write_step}
use Rattle.c_record.specs.RecordBytes.{cart_of}
use Rattle.c_record.specs.Fields.{with_id}
use Rattle.c_record.proofs.FieldBytes.{id-stays}
use Rattle.c_byte_calls.proofs.ByteCalls.{tallies-of, write-yes, id-kept}
use Rattle.c_byte_calls.proofs.write_byte.Goals as goal

pub returns-then-stores : goal.returns-then-stores
returns-then-stores c =
    let s = c in
    let r = s.args.cart.now in
    let m = s.args.memory.now in
    let k = c.kind_in-kind.ensures in
    let w = c.write_byte-sets in
    let t = w.result in
    let e = w.ensures ∙ ap₂ (λ (x : SaveType) (y : Flash). write_step x y (length m) s.args.address s.args.value) k c.flash_in-flash.ensures in
    write-yes r m s.requires (c.if-memory-memory_size.false ∙ c.memory_size.ensures ∙ ap memory_size k) s.args.tallies.now
    (tallies-of (cart_of r).kind (length m) (length s.args.tallies.now) (c.if-memory-memory_size.false ∙ c.memory_size.ensures ∙ ap memory_size k) c.if-tallies-memory.false) s.args.address s.args.value s.args.changed.now t e
    (c.put_flash.ensures ∙ id-stays r s.requires t.sets t.flash (id-kept r m s.args.address s.args.value t e (sym c.stores.ensures ∙ c.if-stores.true)))
    c.apply.ensures

pub returns : goal.returns
returns c =
    let s = c in
    let r = s.args.cart.now in
    let m = s.args.memory.now in
    let k = c.kind_in-kind.ensures in
    let w = c.write_byte-sets in
    let t = w.result in
    let e = w.ensures ∙ ap₂ (λ (x : SaveType) (y : Flash). write_step x y (length m) s.args.address s.args.value) k c.flash_in-flash.ensures in
    write-yes r m s.requires (c.if-memory-memory_size.false ∙ c.memory_size.ensures ∙ ap memory_size k) s.args.tallies.now
    (tallies-of (cart_of r).kind (length m) (length s.args.tallies.now) (c.if-memory-memory_size.false ∙ c.memory_size.ensures ∙ ap memory_size k) c.if-tallies-memory.false) s.args.address s.args.value s.args.changed.now t e
    (c.put_bit.ensures ∙ ap (λ (l : List ℕ). with_id l t.flash.id) c.put_flash.ensures)
    c.apply.ensures

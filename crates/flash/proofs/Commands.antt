-- GBATEK's flash commands. Assumes nothing.
use mathlib.Core.Path.{◌≡◌, ap, ◌∙◌}
use mathlib.Core.Bool.{Bool, true, false, cond, ◌&&◌}
use mathlib.Core.List.{List}
use Prim.Native.Nat.{ℕ, ◌+◌, ◌*◌, ◌-◌, ◌/◌, ◌%◌, ◌≤◌, ◌<◌}
use native.Mathlib.Omega.{arith}
use lib.Dec.{leb, ltb, eqb}
use lib.ListN.{length, get_or, set, get_or-replicate}
use borrow.Author.Tests.{ltb-true}
use Rattle.lists.proofs.Bools.{cases, and_right}
use Rattle.lists.proofs.Parts.{part_at}
use Rattle.lists.specs.Lists.{with_part}
use Rattle.memory.specs.Memory.{Held, erased, stored}
use Rattle.memory.proofs.Memory.{length-erased}
use Rattle.flash.specs.declared.Flash.{Flash}
use Rattle.flash.specs.Flash.{place, id_byte, shown_byte, flash_read, unlock, command, erase, flash_write, write_byte}
use Rattle.flash.specs.Gbatek.{At, gbatek_at, gbatek, enter_id, leave_id, erase_chip, erase_sector, half_erase, program, select_bank, written}
use Rattle.flash.specs.Gbatek.{ChipBytes, bytes64_k, bytes128_k, Idle, idle_chip, place_of, sector_of, base, bus, FlashChipClaim}

-- where the bytes lie that the bank shows
place-by : {n : ℕ} → ChipBytes n → (f : Flash) (a : ℕ) → f.bank ≤ 1 → a < 65536 → place f n (bus a) ≡ 65536 * f.bank % n + a
unfolding place
place-by bytes64_k f a b h = omega arith
place-by bytes128_k f a b h = omega arith

sector-by : {n : ℕ} → ChipBytes n → (b k : ℕ) → (65536 * b % n + 4096 * k) / 4096 * 4096 ≡ 65536 * b % n + 4096 * k
sector-by bytes64_k b k = omega arith
sector-by bytes128_k b k = omega arith

-- the sector of a place lies within the chip
sector-in : {n : ℕ} → ChipBytes n → (f : Flash) (a : ℕ) → place f n a / 4096 * 4096 + 4096 ≤ n
unfolding place
sector-in bytes64_k f a = omega arith
sector-in bytes128_k f a = omega arith

-- an erased byte where the test has it within the sector
erased-or : (a p v : ℕ) → let t = leb a p && ltb p (a + 4096) in cond t (get_or (erased 4096) (p - a) 0) v ≡ cond t 0xff v
unfolding erased
erased-or a p v =
    cases (leb a p && ltb p (a + 4096))
    (λ e.
    let h : p < a + 4096 = ltb-true p (a + 4096) (and_right (leb a p) (ltb p (a + 4096)) e) in
    rw e (get_or-replicate 4096 (p - a) 0xff 0 (omega (arith, h))))
    (λ e. rw e)

module _ (x : Held Flash) (i : Idle x) where
  abbrev b : ℕ
  b = x.chip.bank

  abbrev on : Bool
  on = x.chip.id

  abbrev m : List ℕ
  m = x.memory

  -- the fields written out
  idle : x ≡ idle_chip b on m x.dirty
  idle = λ j. record { chip = record { state = i.state0 j; bank = b; id = on }; memory = m; dirty = x.dirty }

  enters : (t : At) → written (enter_id t) x ≡ idle_chip b true m x.dirty
  unfolding written write_byte flash_write unlock command stored
  enters t = ap (written (enter_id t)) idle

  leaves : (t : At) → written (leave_id t) x ≡ idle_chip b false m x.dirty
  unfolding written write_byte flash_write unlock command stored
  leaves t = ap (written (leave_id t)) idle

  erases-all : (t u : At) → written (erase_chip t u) x ≡ idle_chip b on (erased (length m)) true
  unfolding written write_byte flash_write unlock command erase stored
  erases-all t u = ap (written (erase_chip t u)) idle

  erases-one : (t u : At) → written (erase_sector t u) x ≡ idle_chip b on (with_part m (sector_of x u.third) (erased 4096)) true
  unfolding written write_byte flash_write unlock command erase stored place
  erases-one t u = ap (written (erase_sector t u)) idle

  sector-bytes : (t u : At) (p : ℕ)
      → get_or (written (erase_sector t u) x).memory p 0
      ≡ cond (leb (sector_of x u.third) p && ltb p (sector_of x u.third + 4096)) 0xff (get_or m p 0)
  sector-bytes t u p =
      let a : ℕ = sector_of x u.third in
      let l : length (erased 4096) ≡ 4096 = length-erased 4096 in
      let f : a + length (erased 4096) ≤ length m = rw l (sector-in i.size x.chip u.third) in
      ap (λ (y : Held Flash). get_or y.memory p 0) (erases-one t u)
      ∙ part_at m a (erased 4096) p f
      ∙ rw l (erased-or a p (get_or m p 0))

  spared : (t : At) (a : ℕ) → written (half_erase t a) x ≡ idle_chip b on m x.dirty
  unfolding written write_byte flash_write unlock command stored
  spared t a = ap (written (half_erase t a)) idle

  programmed : (t : At) (a v : ℕ) → written (program t a v) x ≡ idle_chip b on (set m (place_of x a) v) true
  unfolding written write_byte flash_write unlock command stored place
  programmed t a v = ap (written (program t a v)) idle

  selected : (t : At) (a n : ℕ) → written (select_bank t a n) x ≡ idle_chip (n % 2) on m x.dirty
  unfolding written write_byte flash_write unlock command stored
  selected t a n = ap (written (select_bank t a n)) idle

  shows-byte : (word a : ℕ) → on ≡ false → flash_read word x.chip m a ≡ get_or m (place_of x a) 0
  unfolding shown_byte
  shows-byte word a e = rw e

  shows-id : (maker device a : ℕ) → maker < 256 → on ≡ true → flash_read (maker + 256 * device) x.chip m a ≡ cond (eqb (a % 2) 0) maker device
  unfolding id_byte
  shows-id maker device a h e =
      let low : (maker + 256 * device) % 256 ≡ maker = omega arith in
      let high : (maker + 256 * device) / 256 ≡ device = omega arith in
      rw (e, low, high)

  -- GBATEK's addresses
  byte-at : (a : ℕ) → a < 65536 → place_of x (bus a) ≡ base x + a
  byte-at a h = place-by i.size x.chip a i.bank_ok h

  sector-at : (n : ℕ) → n < 16 → sector_of x (bus (4096 * n)) ≡ base x + 4096 * n
  sector-at n h = ap (λ (p : ℕ). p / 4096 * 4096) (byte-at (4096 * n) (omega arith)) ∙ sector-by i.size b n

pub flash-chip : FlashChipClaim
flash-chip x i = (
  record {
    enters_id = enters x i;
    leaves_id = leaves x i;
    erases = erases-all x i;
    erases_sector = erases-one x i;
    sector_bytes = sector-bytes x i;
    spares = spared x i;
    programs = programmed x i;
    selects = selected x i;
    shows = shows-byte x i;
    identifies = shows-id x i;
  },
  record {
    byte_at = byte-at x i;
    sector_at = sector-at x i;
    erases_sector = λ n h.
        erases-one x i gbatek (gbatek_at (bus (4096 * n)))
        ∙ ap (λ (p : ℕ). idle_chip (b x i) (on x i) (with_part (m x i) p (erased 4096)) true) (sector-at x i n h);
    programs = λ a v h.
        programmed x i gbatek (bus a) v ∙ ap (λ (p : ℕ). idle_chip (b x i) (on x i) (set (m x i) p v) true) (byte-at x i a h);
    selects = λ n h.
        let e : n % 2 ≡ n = omega arith in
        selected x i gbatek (bus 0) n ∙ ap (λ (k : ℕ). idle_chip k (on x i) (m x i) x.dirty) e;
    identifies = λ maker device h e. (shows-id x i maker device (bus 0) h e, shows-id x i maker device (bus 1) h e);
  },
)

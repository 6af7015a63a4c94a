-- The image and what the list begins with. Assumes nothing.
use mathlib.Core.Path.{◌≡◌, sym, ap, ◌∙◌}
use mathlib.Core.List.{List, [], ◌∷◌, ◌++◌}
use Prim.Native.Nat.{ℕ, suc, ◌+◌, ◌≤◌}
use native.Mathlib.Omega.{arith}
use lib.ListN.{length, take, drop, replicate, length-replicate, length-drop}
use lib.Seq.{drop_at, drop-drop, length-take-le}
use Rattle.lists.specs.Lists.{into}
use Rattle.memory.specs.Memory.{erased}
use Rattle.memory.proofs.Memory.{length-erased}
use Rattle.kind.specs.declared.SaveType.{SaveType}
use Rattle.kind.specs.declared.SaveType.TheVariants.{None, Sram, Flash64, Flash128, Eeprom512, Eeprom8k}
use Rattle.cuttrace_lib.specs.Setup.{mark, image_of, prelude}
use Rattle.cuttrace_lib.specs.Printing.{Shows}
use Rattle.cuttrace_lib.proofs.Answers.{shows, shows-none}

pub marked : {kind k : SaveType} (image o o' : List ℕ) → kind ≡ k → length image ≡ 192 → o ≡ replicate (length image) 0 → o' ≡ into (mark k) o → o' ≡ image_of kind
unfolding image_of
marked image o o' e l f q =
    let b : o ≡ replicate 192 0 = f ∙ ap (λ (n : ℕ). replicate n 0) l in
    q ∙ (λ j. into (mark (sym e j)) (b j))

-- a list that begins with nothing
pub none-begun : {kind k : SaveType} (list : List ℕ) → kind ≡ k → prelude k ≡ [] → Shows (prelude kind) 0 list list
none-begun list e q = shows-none list (ap prelude e ∙ q)

load-put : (n : ℕ) (list f list' : List ℕ) → 5 + n ≤ length list → f ≡ replicate (length (take n (drop 5 list))) 255
    → list' ≡ into (8 ∷ 0 ∷ 0 ∷ 0x20 ∷ 0 ∷ []) (take 5 list ++ (f ++ drop n (drop 5 list))) → list' ≡ into (8 ∷ 0 ∷ 0 ∷ 0x20 ∷ 0 ∷ erased n) list
unfolding into erased
load-put n list f list' h e q =
    let l : length (take n (drop 5 list)) ≡ n = length-take-le n (drop 5 list) (omega (arith, length-drop 5 list)) in
    let d : drop 5 (take 5 list ++ (f ++ drop n (drop 5 list))) ≡ f ++ drop n (drop 5 list) = drop_at (take 5 list) (f ++ drop n (drop 5 list)) 5 (length-take-le 5 list (omega arith)) in
    let b : f ≡ replicate n 255 = e ∙ ap (λ (x : ℕ). replicate x 255) l in
    let k : 5 + n ≡ suc (suc (suc (suc (suc (length {A = ℕ} (replicate n 255)))))) = omega (arith, length-replicate {A = ℕ} n 255) in
    let g : drop n (drop 5 list) ≡ drop (suc (suc (suc (suc (suc (length {A = ℕ} (replicate n 255))))))) list = drop-drop n 5 list ∙ ap (λ (x : ℕ). drop x list) k in
    q ∙ ap (λ (r : List ℕ). 8 ∷ 0 ∷ 0 ∷ 0x20 ∷ 0 ∷ r) (d ∙ (λ j. b j ++ g j))

pub loaded : (list f list' : List ℕ) → 8197 ≤ length list → f ≡ replicate (length (take 8192 (drop 5 list))) 255
    → list' ≡ into (8 ∷ 0 ∷ 0 ∷ 0x20 ∷ 0 ∷ []) (take 5 list ++ (f ++ drop 8192 (drop 5 list))) → list' ≡ into (prelude Eeprom8k) list
unfolding prelude
loaded list f list' h e q = load-put 8192 list f list' h e q

pub load-begun : {kind : SaveType} {list' : List ℕ} (list : List ℕ) → kind ≡ Eeprom8k → list' ≡ into (prelude Eeprom8k) list → Shows (prelude kind) 8197 list' list
unfolding prelude
load-begun list e q = shows list (ap prelude e) (omega (arith, length-erased 8192)) q

pub prelude-short : (kind : SaveType) → length (prelude kind) ≤ 8197
unfolding prelude
prelude-short None = omega arith
prelude-short Sram = omega arith
prelude-short Flash64 = omega arith
prelude-short Flash128 = omega arith
prelude-short Eeprom512 = omega arith
prelude-short Eeprom8k = omega (arith, length-erased 8192)

-- What `part` returns after `show` is the text, or empty where it was refused. Assumes nothing.
use Prim.Native.Nat.{ℕ, ◌*◌, ◌≤◌}
use mathlib.Core.Path.{◌≡◌, refl, sym, ◌∙◌, ap}
use mathlib.Core.Bool.{Bool, true, false, cond}
use mathlib.Core.Option.{Option, none, some}
use mathlib.Core.List.{List, []}
use native.Mathlib.Omega.{arith}
use lib.ListN.{length, drop}
use lib.Seq.{take_all, take-append_seam}
use lib.Dec.{leb}
use Rattle.sequences.specs.Lists.{Bytes, overlay, bytes_of, units_of}
use Rattle.sequences.proofs.Units.{length_bytes_of, bytes_of_units_of}
use Rattle.plan.specs.declared.Kind.{Kind}
use Rattle.plan.specs.declared.Kind.TheVariants.{Unshown, Same, Signed, Unsigned, Truth, Decimal, Hex, Base64}
use Rattle.text.specs.declared.Shown.{Shown}
use Rattle.text.specs.declared.Shown.TheVariants.{Made, Short}
use Rattle.plan.specs.Text.{kind_of, shown, text_of, is_same}
use Rattle.text.specs.Shows.{laid, laid_in, shown_by, held_by, Shows, part_of, handed}
use Rattle.plan.specs.Plans.{Ruled}
use Rattle.plan.proofs.Rules.{never, ruled}
use Rattle.plan.proofs.Lengths.{text_told}

-- where the payload is the text, its bytes are those of the text
own_bytes : (kind : Kind) (p units : List ℕ) → Bytes p → Ruled kind p → is_same kind ≡ true → shown kind p ≡ some units → bytes_of units ≡ p
unfolding shown
own_bytes Same p units b k o e = let f : units_of p ≡ units = cc in ap bytes_of (sym f) ∙ bytes_of_units_of p b k
own_bytes Unshown p units b k o e = never (cc)
own_bytes (Signed scale) p units b k o e = never (cc)
own_bytes Unsigned p units b k o e = never (cc)
own_bytes Truth p units b k o e = never (cc)
own_bytes Decimal p units b k o e = never (cc)
own_bytes Hex p units b k o e = never (cc)
own_bytes Base64 p units b k o e = never (cc)

parts : (own : Bool) (text : Option (List ℕ)) (p before : List ℕ) → ((units : List ℕ) → own ≡ true → text ≡ some units → bytes_of units ≡ p)
    → part_of p (held_by own text before) (shown_by own text (length before)) ≡ handed own text (length before)
unfolding laid laid_in
parts true none p before f = refl
parts false none p before f = refl
parts true (some units) p before f =
    let e = f units refl refl in
    let n : length p ≡ 2 * length units = ap length (sym e) ∙ length_bytes_of units in
    take_all (2 * length units) p (let q : length p ≤ 2 * length units = omega arith in q) ∙ sym e
parts false (some units) p before f = go (leb (length (bytes_of units)) (length before))
  where
    go : (t : Bool)
        → part_of p (cond t (overlay (bytes_of units) before) before) (cond t (Made (length (bytes_of units))) (Short (length (bytes_of units))))
        ≡ cond t (bytes_of units) []
    go true = take-append_seam (bytes_of units) (drop (length (bytes_of units)) before)
    go false = refl

-- what `part` returns after `show`: the bytes of the text, or none where it was refused (01, "Answer numbers")
pub part_is : (token : ℕ) (p before after : List ℕ) (r : Shown) → Bytes p → Shows token p before after r
    → part_of p after r ≡ handed (is_same (kind_of token)) (text_of token p) (length before)
part_is token p before after r b s =
    rw (s.answer, s.holds)
    (parts (is_same (kind_of token)) (text_of token p) p before
    (λ units o e.
    let t = text_told token p units e in
    own_bytes (kind_of token) p units b (ruled token p t.obeys) o t.by_kind))

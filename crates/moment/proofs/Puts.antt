-- Text before other text: the parts of a date and a time. Assumes nothing.
use Prim.Native.Nat.{ℕ, ◌+◌, ◌*◌, ◌/◌, ◌%◌, ◌^◌, ◌≤◌}
use mathlib.Core.Path.{◌≡◌, ◌∙◌, ap, subst}
use mathlib.Core.Logic.{⊎_elim}
use mathlib.Core.Bool.{Bool, cond}
use mathlib.Core.List.{List, [], ◌∷◌, ◌++◌, append_assoc, append-nil}
use native.Mathlib.Omega.{arith}
use lib.ListN.{length, length-append}
use Rattle.sequences.specs.Lists.{bytes_of}
use Rattle.sequences.proofs.Match.{NoneTo, past_keys}
use Rattle.numeral.specs.Numeral.{last_digits, fraction}
use Rattle.numeral.proofs.Stores.{before, before_length}
use Rattle.numeral.proofs.Digits.{length_last_digits, length_fraction}
use Rattle.moment.proofs.Lengths.{length_clock, length_zone}
use Rattle.calendar.specs.declared.Date.{Date}
use Rattle.calendar.specs.Dates.{date_of}
use Rattle.moment.specs.declared.Moment.{Moment}
use Rattle.moment.specs.declared.Moment.TheVariants.{Day, Time, DayTime, Zoned}
use Rattle.moment.specs.Moment.{date_text, clock_text, day_time_text, zone_text, moment_text}
use Rattle.moment.specs.Written.{Writable}

-- a precision that is none of 1 to 7
pub none : {p : ℕ} → p ≤ 7 → NoneTo 7 p → p ≡ 0
none {p} h k = ⊎_elim (λ e. e) (λ l. omega arith) (past_keys 7 p k)

-- ---- one text before another

pub put_both : (old : List ℕ) {a b : List ℕ} (us vs : List ℕ) → a ≡ bytes_of us ++ old → b ≡ bytes_of vs ++ a → b ≡ bytes_of (vs ++ us) ++ old
put_both old us vs p q = rw p at q ∙ before vs us old

-- how long the text is then
pub long : (old : List ℕ) {a : List ℕ} (us : List ℕ) → a ≡ bytes_of us ++ old → length a ≡ 2 * length us + length old
long old us e = ap length e ∙ before_length us old

pub field_long : (old : List ℕ) {a : List ℕ} (k n u : ℕ) → a ≡ bytes_of (last_digits k n ++ (u ∷ [])) ++ old → length a ≡ 2 * (k + 1) + length old
field_long old k n u e =
    let l = long old (last_digits k n ++ (u ∷ [])) e in
    let m = length-append (last_digits k n) (u ∷ []) in
    let d = length_last_digits k n in
    omega arith

pub digits_long : (old : List ℕ) {a : List ℕ} (k n : ℕ) → a ≡ bytes_of (last_digits k n) ++ old → length a ≡ 2 * k + length old
digits_long old k n e = let l = long old (last_digits k n) e in let d = length_last_digits k n in omega arith

pub fraction_long : (old : List ℕ) {a : List ℕ} (k n : ℕ) → a ≡ bytes_of (fraction k n) ++ old → length a ≤ 2 * (k + 1) + length old
fraction_long old k n e = let l = long old (fraction k n) e in let d = length_fraction k n in omega arith

-- ---- a date: three calls

-- two fields before a text
fields : (a b c : List ℕ) (u v : ℕ) → (a ++ (u ∷ [])) ++ ((b ++ (v ∷ [])) ++ c) ≡ a ++ (u ∷ (b ++ (v ∷ c)))
fields a b c u v = append_assoc a (u ∷ []) ((b ++ (v ∷ [])) ++ c) ∙ ap (λ (l : List ℕ). a ++ (u ∷ l)) (append_assoc b (v ∷ []) c)

fields_put : (old : List ℕ) {x y z : List ℕ} (a b c : List ℕ) (u v : ℕ) → x ≡ bytes_of c ++ old → y ≡ bytes_of (b ++ (v ∷ [])) ++ x
    → z ≡ bytes_of (a ++ (u ∷ [])) ++ y → z ≡ bytes_of (a ++ (u ∷ (b ++ (v ∷ c)))) ++ old
fields_put old a b c u v e f g =
    put_both old ((b ++ (v ∷ [])) ++ c) (a ++ (u ∷ [])) (put_both old c (b ++ (v ∷ [])) e f) g
    ∙ ap (λ (l : List ℕ). bytes_of l ++ old) (fields a b c u v)

pub date_put : (old : List ℕ) {a b e : List ℕ} (d : Date) → a ≡ bytes_of (last_digits 2 d.day) ++ old
    → b ≡ bytes_of (last_digits 2 d.month ++ (45 ∷ [])) ++ a → e ≡ bytes_of (last_digits 4 d.year ++ (45 ∷ [])) ++ b
    → e ≡ bytes_of (date_text d) ++ old
unfolding date_text
date_put old d x y z = fields_put old (last_digits 4 d.year) (last_digits 2 d.month) (last_digits 2 d.day) 45 45 x y z

-- ---- a time

pub clock_put : (old : List ℕ) {a b c e : List ℕ} {unit : ℕ} (precision ticks : ℕ) → unit ≡ 10 ^ precision → a ≡ bytes_of (fraction precision ticks) ++ old
    → b ≡ bytes_of (last_digits 2 (ticks / unit % 60)) ++ a → c ≡ bytes_of (last_digits 2 (ticks / unit / 60 % 60) ++ (58 ∷ [])) ++ b
    → e ≡ bytes_of (last_digits 2 (ticks / unit / 3600) ++ (58 ∷ [])) ++ c → e ≡ bytes_of (clock_text precision ticks) ++ old
unfolding clock_text
clock_put old {unit = unit} precision ticks u w x y z =
    rw (← u)
    (fields_put old (last_digits 2 (ticks / unit / 3600)) (last_digits 2 (ticks / unit / 60 % 60))
    (last_digits 2 (ticks / unit % 60) ++ fraction precision ticks) 58 58 (put_both old (fraction precision ticks) (last_digits 2 (ticks / unit % 60)) w x) y z)

pub zone_put : (old : List ℕ) {a b c : List ℕ} {u : ℕ} (minus : Bool) (minutes : ℕ) → a ≡ bytes_of (last_digits 2 (minutes % 60)) ++ old
    → b ≡ bytes_of (last_digits 2 (minutes / 60) ++ (58 ∷ [])) ++ a → u ≡ cond minus 45 43 → c ≡ bytes_of (u ∷ []) ++ b
    → c ≡ bytes_of (zone_text minus minutes) ++ old
unfolding zone_text
zone_put old {u = u} minus minutes x y e z =
    let h = last_digits 2 (minutes / 60) in
    let m = last_digits 2 (minutes % 60) in
    rw (← e)
    (put_both old ((h ++ (58 ∷ [])) ++ m) (u ∷ []) (put_both old m (h ++ (58 ∷ [])) x y) z
    ∙ ap (λ (l : List ℕ). bytes_of (u ∷ l) ++ old) (append_assoc h (58 ∷ []) m))

-- ---- both

pub day_time_put : (old : List ℕ) {a b c : List ℕ} (day precision ticks : ℕ) → a ≡ bytes_of (clock_text precision ticks) ++ old → b ≡ bytes_of (84 ∷ []) ++ a
    → c ≡ bytes_of (date_text (date_of day)) ++ b → c ≡ bytes_of (day_time_text day precision ticks) ++ old
unfolding day_time_text
day_time_put old day precision ticks x y z =
    put_both old (84 ∷ clock_text precision ticks) (date_text (date_of day)) (put_both old (clock_text precision ticks) (84 ∷ []) x y) z

pub clock_room : (old : List ℕ) {a : List ℕ} (precision ticks : ℕ) → precision ≤ 7 → a ≡ bytes_of (clock_text precision ticks) ++ old
    → length old + 54 ≤ 82 → length a + 22 ≤ 82
clock_room old precision ticks h e r = let l = long old (clock_text precision ticks) e in let c = length_clock precision ticks in omega arith

-- ---- each kind of moment, alone in the small buffer

pub alone : (old : List ℕ) {a : List ℕ} (us : List ℕ) → old ≡ [] → a ≡ bytes_of us ++ old → a ≡ bytes_of us
alone old us h e = rw h at e ∙ append-nil (bytes_of us)

pub zone_room : (old : List ℕ) {a : List ℕ} (minus : Bool) (minutes : ℕ) → old ≡ [] → a ≡ bytes_of (zone_text minus minutes) ++ old → length a + 54 ≤ 82
zone_room old minus minutes h e =
    let l = long old (zone_text minus minutes) e in let z = length_zone minus minutes in let n = ap length h in omega arith

pub zoned : (old : List ℕ) {a b : List ℕ} (day precision ticks : ℕ) (minus : Bool) (minutes : ℕ) → old ≡ [] → a ≡ bytes_of (zone_text minus minutes) ++ old
    → b ≡ bytes_of (day_time_text day precision ticks) ++ a → b ≡ bytes_of (day_time_text day precision ticks ++ zone_text minus minutes)
zoned old day precision ticks minus minutes h p q =
    alone old (day_time_text day precision ticks ++ zone_text minus minutes) h (put_both old (zone_text minus minutes) (day_time_text day precision ticks) p q)

-- what writing asks, in the arm of the moment
pub writable_on : {moment q : Moment} → moment ≡ q → Writable moment → Writable q
writable_on e w = subst Writable e w

module _ {small : List ℕ} {moment : Moment} where
  text_on : {q : Moment} → moment ≡ q → small ≡ bytes_of (moment_text q) → small ≡ bytes_of (moment_text moment)
  text_on e f = rw e f

  pub text_day : {day : ℕ} → moment ≡ Day day → small ≡ bytes_of (date_text (date_of day)) → small ≡ bytes_of (moment_text moment)
  unfolding moment_text
  text_day e f = text_on e f

  pub text_time : {precision ticks : ℕ} → moment ≡ Time precision ticks → small ≡ bytes_of (clock_text precision ticks) → small ≡ bytes_of (moment_text moment)
  unfolding moment_text
  text_time e f = text_on e f

  pub text_day_time : {day precision ticks : ℕ} → moment ≡ DayTime day precision ticks → small ≡ bytes_of (day_time_text day precision ticks)
      → small ≡ bytes_of (moment_text moment)
  unfolding moment_text
  text_day_time e f = text_on e f

  pub text_zoned : {day precision ticks : ℕ} {minus : Bool} {minutes : ℕ} → moment ≡ Zoned day precision ticks minus minutes
      → small ≡ bytes_of (day_time_text day precision ticks ++ zone_text minus minutes) → small ≡ bytes_of (moment_text moment)
  unfolding moment_text
  text_zoned e f = text_on e f

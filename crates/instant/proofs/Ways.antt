-- Instants: bounds, and each way out of the functions that place one in the calendar. Assumes nothing.
use Prim.Native.Nat.{ℕ, ◌+◌, ◌-◌, ◌*◌, ◌/◌, ◌%◌, ◌^◌, ◌≤◌, ◌<◌}
use mathlib.Core.Path.{◌≡◌, sym, ap, subst, ◌∙◌}
use mathlib.Core.Bool.{Bool, true, false}
use native.Mathlib.Nat.{mul-le-mul}
use native.Mathlib.Omega.{arith}
use Rattle.sequences.proofs.Tests.{tests}
use Rattle.calendar.specs.Calendar.{last_day}
use Rattle.instant.specs.declared.Local.{Local}
use Rattle.std.specs.Prelude.{Option, Some, None}
use mathlib.Core.List.{List}
use lib.ListN.{length}
use Rattle.sequences.specs.Lists.{little}
use Rattle.rules.specs.Rules.{lawful}
use Rattle.chunks.specs.Chunks.{word_size}
use Rattle.moment.specs.declared.Moment.{Moment}
use Rattle.moment.specs.declared.Moment.TheVariants.{Day, Time}
use Rattle.instant.specs.declared.Form.{Form}
use Rattle.instant.specs.declared.Form.TheVariants.{Date2, DateTime2, Time2, DateTimeOffset, Milliseconds}
use Rattle.instant.specs.Instant.{precision_in, ticks_in, day_in, zone_in, is_west, minutes_of, per_day, since_first, at, dated, local_of, day_time_at, zoned_at, moment_of}
use Rattle.instant.specs.Forms.{form_shape}

-- ---- bounds

pub instant_room : (day whole : ℕ) → day ≤ 3652058 → whole ≤ 864000000000 → day * whole ≤ 3155378112000000000
instant_room day whole a b = mul-le-mul a b

pub zone_room : (minutes unit : ℕ) → minutes ≤ 840 → unit ≤ 10000000 → minutes * 60 * unit ≤ 504000000000
zone_room minutes unit a b = let c : minutes * 60 ≤ 50400 = omega arith in mul-le-mul c b

-- ---- the ways out

module _ (precision n : ℕ) {whole : ℕ} (e : whole ≡ per_day precision) where
  pub dated_none : last_day < n / whole → None ≡ dated precision n
  unfolding dated
  dated_none h = let k : last_day < n / per_day precision = rw e at h in simp (tests, k)

  pub dated_at : n / whole ≤ last_day → Some (at (n / whole) (n % whole)) ≡ dated precision n
  unfolding dated
  dated_at h = let k : n / per_day precision ≤ last_day = rw e at h in simp (tests, k, e)

module _ (precision n minutes : ℕ) {minus : Bool} {unit : ℕ} (e : unit ≡ 10 ^ precision) where
  pub local_none : minus ≡ true → n < minutes * 60 * unit → None ≡ local_of precision n minus minutes
  unfolding local_of
  local_none m h = let k : n < minutes * 60 * 10 ^ precision = rw e at h in simp (tests, m, k)

  pub local_west : minus ≡ true → minutes * 60 * unit ≤ n → {r : Option Local} → r ≡ dated precision (n - minutes * 60 * unit)
      → r ≡ local_of precision n minus minutes
  unfolding local_of
  local_west m h d = let k : minutes * 60 * 10 ^ precision ≤ n = rw e at h in d ∙ simp (tests, m, k, e)

  pub local_east : minus ≡ false → {r : Option Local} → r ≡ dated precision (n + minutes * 60 * unit) → r ≡ local_of precision n minus minutes
  unfolding local_of
  local_east m d = d ∙ simp (m, e)

pub per_day_is : (precision : ℕ) {unit : ℕ} → unit ≡ 10 ^ precision → 86400 * unit ≡ per_day precision
unfolding per_day
per_day_is precision e = rw e

pub since_is : (precision day ticks : ℕ) {whole : ℕ} → whole ≡ per_day precision → day * whole + ticks ≡ since_first precision day ticks
unfolding since_first
since_is precision day ticks e = rw e

-- ---- what a payload means

pub date_is : (p : List ℕ) {v : ℕ} → v ≡ little p → Some (Day v) ≡ moment_of Date2 p
unfolding moment_of
date_is p e = rw e

pub time_is : (p : List ℕ) {precision ticks whole : ℕ} → precision ≡ precision_in p → ticks ≡ ticks_in p → whole ≡ per_day precision
    → Some (Time precision (ticks % whole)) ≡ moment_of Time2 p
unfolding moment_of
time_is p a b e = rw (e, a, b)

module _ (p : List ℕ) {precision day ticks n : ℕ} {l q : Option Local} (a : precision ≡ precision_in p) (b : ticks ≡ ticks_in p) (d : day ≡ day_in p)
    (e : n ≡ since_first precision day ticks) (f : l ≡ q) where
  pub date_time_is : l ≡ dated precision n → day_time_at precision q ≡ moment_of DateTime2 p
  unfolding moment_of
  date_time_is g = ap (λ (x : Option Local). day_time_at precision x) (sym f ∙ g) ∙ rw (e, a, b, d)

  pub zoned_is : {minus : Bool} {minutes : ℕ} → minus ≡ is_west (zone_in p) → minutes ≡ minutes_of (zone_in p) → l ≡ local_of precision n minus minutes
      → zoned_at precision minus minutes q ≡ moment_of DateTimeOffset p
  unfolding moment_of
  zoned_is {minus} {minutes} x y g = ap (λ (z : Option Local). zoned_at precision minus minutes z) (sym f ∙ g) ∙ rw (e, a, b, d, x, y)

-- a time in milliseconds: eight bytes, four times the number
pub eight_bytes : (p : List ℕ) → length p ≡ 8 → word_size (length p) ≡ true
unfolding word_size
eight_bytes p e = rw e

module _ (p : List ℕ) {v : ℕ} (e : v ≡ little p) where
  pub milliseconds_in : v / 4 < 86400000 → Some (Time 3 (v / 4)) ≡ moment_of Milliseconds p
  unfolding moment_of per_day
  milliseconds_in h = let k : little p / 4 < 86400 * 10 ^ 3 = rw e at h in simp (tests, k, e)

  pub milliseconds_past : 86400000 ≤ v / 4 → None ≡ moment_of Milliseconds p
  unfolding moment_of per_day
  milliseconds_past h = let k : 86400 * 10 ^ 3 ≤ little p / 4 = rw e at h in simp (tests, k)

-- ---- in the arm of a kind of payload

module _ (p : List ℕ) {form q : Form} (e : form ≡ q) where
  pub lawful_on : lawful (form_shape form) p ≡ true → lawful (form_shape q) p ≡ true
  lawful_on h = subst (λ (x : Form). lawful (form_shape x) p ≡ true) e h

  pub moment_on : {r : Option Moment} → r ≡ moment_of q p → r ≡ moment_of form p
  moment_on {r} h = subst (λ (x : Form). r ≡ moment_of x p) (sym e) h

-- A date and a time are the instant that they were found for, and only an instant outside the calendar has none (02, item 1). Assumes
-- nothing.
use Prim.Native.Nat.{ℕ, suc, ◌+◌, ◌-◌, ◌*◌, ◌/◌, ◌%◌, ◌≤◌, ◌<◌}
use mathlib.Core.Path.{◌≡◌, refl, ap, subst}
use mathlib.Core.Logic.{inl, inr}
use mathlib.Core.Bool.{Bool, true, false, cond}
use mathlib.Core.List.{List}
use native.Mathlib.Nat.{div-add-mod', mod-lt, mul-le-mul_right, le_trans}
use native.Mathlib.Omega.{arith}
use lib.Dec.{leb, ltb, lit≤}
use borrow.Author.Tests.{leb-true, leb-false, ltb-true, ltb-false}
use Rattle.sequences.specs.Lists.{little}
use Rattle.sequences.proofs.Tests.{apart}
use Rattle.rules.specs.Rules.{lawful}
use Rattle.chunks.proofs.Chunked.{ten_pos}
use Rattle.calendar.specs.Calendar.{last_day}
use Rattle.moment.specs.declared.Moment.{Moment}
use Rattle.moment.specs.declared.Moment.TheVariants.{Time}
use Rattle.moment.specs.Written.{Writable}
use Rattle.instant.specs.declared.Form.{Form}
use Rattle.instant.specs.declared.Form.TheVariants.{Date2, DateTime2, Time2, DateTimeOffset, Milliseconds}
use Rattle.instant.specs.declared.Local.{Local}
use Rattle.std.specs.Prelude.{Option, Some, None}
use Rattle.instant.specs.Instant.{precision_in, zone_in, is_west, minutes_of, per_day, since_first, stored_in, at, dated, zone_ticks, local_of, local_in, day_time_at, zoned_at, moment_of}
use Rattle.instant.specs.Instants.{Placed, Past, Moved, Off}
use Rattle.instant.specs.Forms.{form_shape}
use Rattle.instant.proofs.Fields.{date_field, date_time_fields, time_only_fields, zoned_fields}

-- ---- an instant and its date

per_day_some : (precision : ℕ) → 0 < per_day precision
unfolding per_day
per_day_some precision = omega (arith, ten_pos precision)

pub dated_placed : (precision n : ℕ) {day ticks : ℕ} → dated precision n ≡ Some (at day ticks) → Placed precision n day ticks
unfolding dated since_first
dated_placed precision n {day} {ticks} e = go (leb (n / per_day precision) last_day) refl e
  where
    go : (b : Bool) → leb (n / per_day precision) last_day ≡ b → cond b (Some (at (n / per_day precision) (n % per_day precision))) None ≡ Some (at day ticks)
        → Placed precision n day ticks
    go true t f =
        let q : at (n / per_day precision) (n % per_day precision) ≡ at day ticks = cc in
        let x : n / per_day precision ≡ day = ap (λ (l : Local). l.day) q in
        let y : n % per_day precision ≡ ticks = ap (λ (l : Local). l.ticks) q in
        record {
          in_calendar = rw x at (leb-true (n / per_day precision) last_day t);
          in_day = rw y at (mod-lt n (per_day_some precision));
          same = rw (← x, ← y) (div-add-mod' n (per_day precision));
        }
    go false t f = apart (cc)

-- no date: the days before it are more than the calendar has
pub dated_past : (precision n : ℕ) → dated precision n ≡ None → Past precision n
unfolding dated
dated_past precision n e = go (leb (n / per_day precision) last_day) refl e
  where
    go : (b : Bool) → leb (n / per_day precision) last_day ≡ b → cond b (Some (at (n / per_day precision) (n % per_day precision))) None ≡ None → Past precision n
    go true t f = apart (cc)
    go false t f =
        let l : suc last_day ≤ n / per_day precision = leb-false _ _ t in
        let m : suc last_day * per_day precision ≤ n / per_day precision * per_day precision = mul-le-mul_right (per_day precision) l in
        let d = div-add-mod' n (per_day precision) in
        le_trans m (omega arith)

-- ---- the same in the local time of a zone

module _ (precision n minutes : ℕ) where
  pub local_moved : (minus : Bool) {day ticks : ℕ} → local_of precision n minus minutes ≡ Some (at day ticks) → Moved precision n minus minutes day ticks
  unfolding local_of
  local_moved true {day} {ticks} e = go (ltb n (zone_ticks precision minutes)) refl e
    where
      go : (b : Bool) → ltb n (zone_ticks precision minutes) ≡ b → cond b None (dated precision (n - zone_ticks precision minutes)) ≡ Some (at day ticks)
          → Moved precision n true minutes day ticks
      go true t f = apart (cc)
      go false t f =
          let l : zone_ticks precision minutes ≤ n = ltb-false n (zone_ticks precision minutes) t in
          let d = dated_placed precision (n - zone_ticks precision minutes) f in
          record { in_calendar = d.in_calendar; in_day = d.in_day; same = omega (arith, d.same) }
  local_moved false e =
      let d = dated_placed precision (n + zone_ticks precision minutes) e in
      record { in_calendar = d.in_calendar; in_day = d.in_day; same = omega (arith, d.same) }

  pub local_off : (minus : Bool) → local_of precision n minus minutes ≡ None → Off precision n minus minutes
  unfolding local_of
  local_off true e = go (ltb n (zone_ticks precision minutes)) refl e
    where
      go : (b : Bool) → ltb n (zone_ticks precision minutes) ≡ b → cond b None (dated precision (n - zone_ticks precision minutes)) ≡ None → Off precision n true minutes
      go true t f = inl (ltb-true n (zone_ticks precision minutes) t)
      go false t f =
          let l : zone_ticks precision minutes ≤ n = ltb-false n (zone_ticks precision minutes) t in
          let d = dated_past precision (n - zone_ticks precision minutes) f in
          inr (omega arith)
  local_off false e = dated_past precision (n + zone_ticks precision minutes) e

-- ---- what is found can be written

text_same : {a b : Moment} → Some a ≡ Some b → a ≡ b
text_same e = cc

pub found_writable : (form : Form) (p : List ℕ) {m : Moment} → lawful (form_shape form) p ≡ true → moment_of form p ≡ Some m → Writable m
unfolding moment_of
found_writable Date2 p h e = subst Writable (text_same e) (date_field p h).day_last
found_writable DateTime2 p {m} h e = go (dated (precision_in p) (stored_in p)) refl e
  where
    go : (l : Option Local) → dated (precision_in p) (stored_in p) ≡ l → day_time_at (precision_in p) l ≡ Some m → Writable m
    go (Some l) f g = subst Writable (text_same g) ((dated_placed (precision_in p) (stored_in p) {day = l.day} {ticks = l.ticks} f).in_calendar, (date_time_fields p h).fine)
    go None f g = apart (cc)
found_writable Time2 p h e = subst Writable (text_same e) (time_only_fields p h).fine
found_writable DateTimeOffset p {m} h e = go (local_in p) refl e
  where
    go : (l : Option Local) → local_in p ≡ l → zoned_at (precision_in p) (is_west (zone_in p)) (minutes_of (zone_in p)) l ≡ Some m → Writable m
    go (Some l) f g =
        subst Writable (text_same g)
        ((local_moved (precision_in p) (stored_in p) (minutes_of (zone_in p)) (is_west (zone_in p)) {day = l.day} {ticks = l.ticks} f).in_calendar, (zoned_fields p h).time.fine)
    go None f g = apart (cc)
found_writable Milliseconds p {m} h e = go (ltb (little p / 4) (per_day 3)) e
  where
    go : (b : Bool) → cond b (Some (Time 3 (little p / 4))) None ≡ Some m → Writable m
    go true g = subst Writable (text_same g) (lit≤ tt)
    go false g = apart (cc)

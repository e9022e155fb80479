-- The fields of a payload that obeys its rule, and parts of it as little-endian numbers. Assumes nothing.
use Prim.Native.Nat.{ℕ, ◌+◌, ◌-◌, ◌^◌, ◌≤◌, ◌<◌}
use mathlib.Core.Path.{◌≡◌, ap, ◌∙◌}
use mathlib.Core.Bool.{true, false, ◌&&◌, ◌||◌}
use mathlib.Core.List.{List}
use native.Mathlib.Nat.{lt_of_lt_of_le, pow-le-pow_right}
use native.Mathlib.Omega.{arith}
use lib.Dec.{leb, eqb}
use lib.ListN.{length, take, drop}
use lib.Seq.{slice, take-add, take_all, drop_at, length-take-le}
use borrow.Author.Tests.{leb-true, eqb-true}
use Rattle.sequences.specs.Lists.{part, little}
use Rattle.sequences.proofs.Tests.{tests, and_left, and_right, either}
use Rattle.rules.specs.Rules.{time_bytes, day_within, zone_lawful, time_lawful, zoned_lawful, lawful}
use Rattle.instant.specs.declared.Form.TheVariants.{Date2, DateTime2, Time2, DateTimeOffset, Milliseconds}
use Rattle.instant.specs.Instant.{precision_in, ticks_in, day_in, zone_in, is_west, minutes_of}
use Rattle.instant.specs.Forms.{form_shape}

-- ---- a part of a payload

slice_part : (p : List ℕ) (from size : ℕ) → from ≤ length p → slice from (from + size) p ≡ part p from size
slice_part p from size h =
    ap (λ (x : List ℕ). drop from x) (take-add from size p)
    ∙ drop_at (take from p) (take size (drop from p)) from (length-take-le from p h)

-- the number of such a part
field_is : (p : List ℕ) (from size : ℕ) {v : ℕ} → from ≤ length p → v ≡ little (slice from (from + size) p) → v ≡ little (part p from size)
field_is p from size h e = e ∙ ap little (slice_part p from size h)

-- at most five bytes are below 2 ^ 40
pub five_bytes : {v n : ℕ} → n ≤ 5 → v < 256 ^ n → v < 1099511627776
five_bytes {v} {n} h k =
    let q : 256 ^ n ≤ 256 ^ 5 = pow-le-pow_right {n = 256} (omega arith) h in
    lt_of_lt_of_le k q

-- ---- rules

-- a date
pub record DateField (p : List ℕ) : Type 0 where
  pub long : length p ≡ 3
  pub day_last : little p ≤ 3652058

pub date_field : (p : List ℕ) → lawful (form_shape Date2) p ≡ true → DateField p
unfolding lawful day_within
date_field p e =
    let within = and_right (eqb (length p) 3) _ e in
    record { long = eqb-true _ _ (and_left (eqb (length p) 3) _ e); day_last = leb-true _ _ (and_right (leb 0 (little p)) _ within) }

-- a time, with so many bytes after it, of which the first three are its date
pub record TimeFields (more last : ℕ) (p : List ℕ) : Type 0 where
  pub fine : precision_in p ≤ 7
  pub long : length p ≡ 1 + time_bytes (precision_in p) + more
  pub day_last : day_in p ≤ last

pub time_fields : (more first last : ℕ) (p : List ℕ) → time_lawful more first last p ≡ true → TimeFields more last p
unfolding time_lawful day_within
time_fields more first last p e =
    let front = and_left (leb (precision_in p) 7 && eqb (length p) (1 + time_bytes (precision_in p) + more)) _ e in
    let within = and_right (leb (precision_in p) 7 && eqb (length p) (1 + time_bytes (precision_in p) + more)) _ e in
    record {
      fine = leb-true _ _ (and_left (leb (precision_in p) 7) _ front);
      long = eqb-true _ _ (and_right (leb (precision_in p) 7) _ front);
      day_last = leb-true _ _ (and_right (leb first (day_in p)) _ within);
    }

pub date_time_fields : (p : List ℕ) → lawful (form_shape DateTime2) p ≡ true → TimeFields 3 3652058 p
unfolding lawful
date_time_fields p e = time_fields 3 0 3652058 p e

pub time_only_fields : (p : List ℕ) → lawful (form_shape Time2) p ≡ true → TimeFields 3 693595 p
unfolding lawful
time_only_fields p e = time_fields 3 693595 693595 p e

-- the same, with a zone of at most 14 hours
pub record ZonedFields (p : List ℕ) : Type 0 where
  pub time : TimeFields 5 3652058 p
  pub near : minutes_of (zone_in p) ≤ 840

zone_near : (zone : ℕ) → (leb zone 840 || leb 64696 zone) ≡ true → minutes_of zone ≤ 840
zone_near zone e = either (leb zone 840) (leb 64696 zone) e east west
  where
    east : leb zone 840 ≡ true → minutes_of zone ≤ 840
    east t = let h : zone ≤ 840 = leb-true _ _ t in let k : zone < 32768 = omega arith in simp (tests, k) h

    west : leb 64696 zone ≡ true → minutes_of zone ≤ 840
    west t = let h : 64696 ≤ zone = leb-true _ _ t in let k : 32768 ≤ zone = omega arith in simp (tests, k) (omega arith)

pub zoned_fields : (p : List ℕ) → lawful (form_shape DateTimeOffset) p ≡ true → ZonedFields p
unfolding lawful zoned_lawful zone_lawful
zoned_fields p e =
    record {
      time = time_fields 5 0 3652058 p (and_left (time_lawful 5 0 3652058 p) _ e);
      near = zone_near (zone_in p) (and_right (time_lawful 5 0 3652058 p) _ e);
    }

-- a time in milliseconds
pub stamp_field : (p : List ℕ) → lawful (form_shape Milliseconds) p ≡ true → length p ≡ 8
unfolding lawful
stamp_field p e = eqb-true _ _ (and_left (eqb (length p) 8) _ e)

-- ---- each field as it is read

module _ (p : List ℕ) {size v : ℕ} (e : size ≡ time_bytes (precision_in p)) (h : 4 + size ≤ length p) where
  pub ticks_read : v ≡ little (slice 1 (1 + size) p) → v ≡ ticks_in p
  ticks_read f = rw (← e) (field_is p 1 size (omega arith) f)

  pub day_read : v ≡ little (slice (1 + size) (1 + size + 3) p) → v ≡ day_in p
  day_read f = rw (← e) (field_is p (1 + size) 3 (omega arith) f)

pub date_read : (p : List ℕ) {v : ℕ} → length p ≡ 3 → v ≡ little (slice 0 3 p) → v ≡ little p
date_read p h f = field_is p 0 3 (omega arith) f ∙ ap little (take_all 3 p (omega arith))

module _ (p : List ℕ) {v : ℕ} (h : 2 ≤ length p) where
  pub zone_below : v < 256 ^ (length p - (length p - 2)) → v < 65536
  zone_below k = let e : length p - (length p - 2) ≡ 2 = omega arith in rw e at k

  zone_read : v ≡ little (slice (length p - 2) (length p) p) → v ≡ zone_in p
  zone_read f =
      let e : length p - 2 + 2 ≡ length p = omega arith in
      field_is p (length p - 2) 2 (omega arith) (rw e f)

  module _ (f : v ≡ little (slice (length p - 2) (length p) p)) where
    pub zone_east : v < 32768 → (false ≡ is_west (zone_in p)) × (v ≡ minutes_of (zone_in p))
    zone_east l = rw (← zone_read f) (simp (tests, l), simp (tests, l))

    pub zone_west : 32768 ≤ v → (true ≡ is_west (zone_in p)) × (65536 - v ≡ minutes_of (zone_in p))
    zone_west l = rw (← zone_read f) (simp (tests, l), simp (tests, l))

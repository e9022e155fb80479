-- The value rules of 01, "Value rules", on a payload as a list of bytes: which payloads a shape allows.
use Rattle.std.specs.Prelude.{ℕ, ◌+◌, ◌-◌, ◌%◌, Bool, true, false, cond, ◌&&◌, ◌||◌, List, ltb, leb, eqb, length, get_or}
use Rattle.sequences.specs.Lists.{part, little}
use Rattle.token.specs.declared.Shape.{Shape}
use Rattle.token.specs.declared.Shape.TheVariants.{Nothing, Fixed, Text, Blob, CodePage, Decimal, Qname, Stamp, Date, Time, ZonedTime}

-- 004, section 2.3.5: precision, scale and sign, then 4, 8, 12 or 16 bytes
unfoldable pub decimal_size : ℕ → Bool
decimal_size n = eqb n 7 || eqb n 11 || eqb n 15 || eqb n 19

-- precision at most 38, scale at most precision, sign 0 or 1
unfoldable pub decimal_lawful : List ℕ → Bool
decimal_lawful p = decimal_size (length p) && leb (get_or p 0 0) 38 && leb (get_or p 1 0) (get_or p 0 0) && leb (get_or p 2 0) 1

-- 004, section 2.4.2: the bytes of a time at a precision of 0 to 7
unfoldable pub time_bytes : ℕ → ℕ
time_bytes precision = cond (ltb precision 3) 3 (cond (ltb precision 5) 4 5)

-- a day number of three bytes
unfoldable pub day_within : ℕ → ℕ → List ℕ → Bool
day_within first last p = leb first (little p) && leb (little p) last

-- 004, section 2.4.3: two bytes, signed, from -840 to 840 minutes
unfoldable pub zone_lawful : List ℕ → Bool
zone_lawful p = leb (little p) 840 || leb 64696 (little p)

-- the precision; then the time, three bytes of date, and what follows: so many bytes more than the time has
unfoldable pub time_lawful : ℕ → ℕ → ℕ → List ℕ → Bool
time_lawful more first last p =
    leb (get_or p 0 0) 7 && eqb (length p) (1 + time_bytes (get_or p 0 0) + more) && day_within first last (part p (1 + time_bytes (get_or p 0 0)) 3)

-- the same, with two bytes of zone at the end
unfoldable pub zoned_lawful : ℕ → ℕ → List ℕ → Bool
zoned_lawful first last p = time_lawful 5 first last p && zone_lawful (part p (length p - 2) 2)

unfoldable pub lawful : Shape → List ℕ → Bool
lawful Nothing p = eqb (length p) 0
lawful (Fixed size) p = eqb (length p) size
lawful (Text most) p = eqb (length p % 2) 0
lawful (Blob most) p = true
lawful (CodePage most) p = leb 4 (length p)
lawful Decimal p = decimal_lawful p
lawful Qname p = false
lawful (Stamp low) p = eqb (length p) 8 && eqb (get_or p 0 0 % 4) low
lawful (Date first last) p = eqb (length p) 3 && day_within first last p
lawful (Time first last) p = time_lawful 3 first last p
lawful (ZonedTime first last) p = zoned_lawful first last p

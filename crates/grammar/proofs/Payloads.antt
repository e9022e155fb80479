-- The payload of a value: the grammar derives it where reading finds it, and reading finds what the grammar derives, shape
-- by shape. Assumes nothing.
use Prim.Native.Nat.{ℕ, zero, suc, ◌+◌, ◌-◌, ◌*◌, ◌%◌, ◌≤◌, ◌<◌}
use mathlib.Core.Path.{◌≡◌, refl, sym, ◌∙◌, ap, subst}
use mathlib.Core.Logic.{◌⊎◌, inl, inr}
use mathlib.Core.Bool.{Bool, true, false, ◌&&◌, ◌||◌}
use mathlib.Core.List.{List, [], ◌∷◌}
use native.Mathlib.Omega.{arith}
use native.Mathlib.Decide.{dec_lt}
use lib.Dec.{ltb, leb, eqb}
use lib.ListN.{length, get_or, take, drop}
use lib.Seq.{get_or-take, get_or-drop, take-take, drop-drop}
use borrow.Author.Tests.{ltb-true, leb-true, eqb-true, lt-ltb, le-ltb, le-leb, eq-eqb}
use Rattle.sequences.specs.Lists.{part, little}
use Rattle.sequences.proofs.Tests.{tests, cond_if, and_left, and_right}
use Rattle.sequences.proofs.Overlay.{part_length}
use Rattle.std.specs.Prelude.{Result, Ok, Err}
use Rattle.token.specs.declared.Refusal.{Refusal}
use Rattle.token.specs.declared.Shape.{Shape}
use Rattle.token.specs.declared.Shape.TheVariants as shape
use Rattle.number.specs.Number.{number_at}
use Rattle.number.specs.declared.Number as numbers
use Rattle.rules.specs.Rules.{decimal_size, decimal_lawful, time_bytes, day_within, zone_lawful, time_lawful, zoned_lawful, lawful}
use Rattle.value.specs.Fields.{needed, text_judged, text_payload, text_at, blob_after, decimal_after, time_field, qname_payload, extent_at, ruled, field_at}
use Rattle.value.specs.declared.Text as texts
use Rattle.value.specs.declared.Field.{Field}
use Rattle.value.specs.declared.Field.TheVariants as field
use Rattle.grammar.specs.Grammar.{Byte, MultiByte, DecimalSize, four, eight, twelve, sixteen, SqlTime, SqlDate, SqlTimeZone, PayloadAt, nothing, bytes, textdata, blob, codepagetext, decimal, stamp, sqldate, sqldatetime2, sqldatetimeoffset}
use Rattle.grammar.specs.Grammar as payloads
use Rattle.grammar.proofs.Leaves.{NumberIs, number_is, number_derived}
use Rattle.grammar.proofs.Rest.{clash}

-- ---- parts of parts

take_part : (b k n : ℕ) (l : List ℕ) → b + k ≤ n → take k (drop b (take n l)) ≡ take k (drop b l)
take_part zero k n l h = take-take k n l (omega arith)
take_part (suc b) k zero l h = absurd (let q : ⊥ = omega arith in q)
take_part (suc b) k (suc n) [] h = refl
take_part (suc b) k (suc n) (x ∷ l) h = take_part b k n l (omega arith)

part_part : (l : List ℕ) (a n b k : ℕ) → b + k ≤ n → part (part l a n) b k ≡ part l (a + b) k
part_part l a n b k h = take_part b k n (drop a l) h ∙ ap (λ (x : List ℕ). take k x) (drop-drop b a l)

part_at_lem : (l : List ℕ) (a n k : ℕ) → k < n → get_or (part l a n) k 0 ≡ get_or l (a + k) 0
part_at_lem l a n k h = get_or-take n (drop a l) k 0 h ∙ get_or-drop a l k 0

part_first : (l : List ℕ) (a n : ℕ) → 0 < n → get_or (part l a n) 0 0 ≡ get_or l a 0
part_first l a n h = part_at_lem l a n 0 h ∙ ap (λ (k : ℕ). get_or l k 0) (let q : a + 0 ≡ a = omega arith in q)

-- ---- sizes of a decimal

decimal_size_lem : (n : ℕ) → decimal_size n ≡ true → DecimalSize n
unfolding decimal_size
decimal_size_lem n e = go (eqb n 7) (eqb n 11) (eqb n 15) (eqb n 19) refl refl refl refl e
  where
    go : (a b c d : Bool) → eqb n 7 ≡ a → eqb n 11 ≡ b → eqb n 15 ≡ c → eqb n 19 ≡ d → (a || b || c || d) ≡ true → DecimalSize n
    go true b c d p q r s e = rw (eqb-true n 7 p) four
    go false true c d p q r s e = rw (eqb-true n 11 q) eight
    go false false true d p q r s e = rw (eqb-true n 15 r) twelve
    go false false false true p q r s e = rw (eqb-true n 19 s) sixteen
    go false false false false p q r s e = clash (cc)

size_decimal : {n : ℕ} → DecimalSize n → (decimal_size n ≡ true) × (7 ≤ n)
unfolding decimal_size
size_decimal four = (refl, omega arith)
size_decimal eight = (refl, omega arith)
size_decimal twelve = (refl, omega arith)
size_decimal sixteen = (refl, omega arith)

module _ (doc : List ℕ) where
  -- ---- times

  record Timed (place time : ℕ) : Type 0 where
    inside : place < length doc
    low : get_or doc place 0 ≤ 7
    is : 1 + time_bytes (get_or doc place 0) ≡ time

  timed : {place time : ℕ} → SqlTime doc place time → Timed place time
  unfolding time_bytes
  timed {place} (payloads.three_bytes b h) =
      let l : get_or doc place 0 ≤ 2 = rw b.is h in
      record { inside = b.inside; low = omega arith; is = simp (tests, (let q : get_or doc place 0 < 3 = omega arith in q)) }
  timed {place} (payloads.four_bytes b g h) =
      let k : 3 ≤ get_or doc place 0 = rw b.is g in
      let l : get_or doc place 0 ≤ 4 = rw b.is h in
      record { inside = b.inside; low = omega arith; is = simp (tests, k, (let q : get_or doc place 0 < 5 = omega arith in q)) }
  timed {place} (payloads.five_bytes b g h) =
      let k : 5 ≤ get_or doc place 0 = rw b.is g in
      let l : get_or doc place 0 ≤ 7 = rw b.is h in
      record { inside = b.inside; low = l; is = simp (tests, k, (let q : 3 ≤ get_or doc place 0 = omega arith in q)) }

  time_of : (place : ℕ) → place < length doc → get_or doc place 0 ≤ 7 → SqlTime doc place (1 + time_bytes (get_or doc place 0))
  unfolding time_bytes
  time_of place i h = go (dec_lt (get_or doc place 0) 3) (dec_lt (get_or doc place 0) 5)
    where
      b : Byte doc place (get_or doc place 0)
      b = record { inside = i; is = refl }

      go : Dec (get_or doc place 0 < 3) → Dec (get_or doc place 0 < 5) → SqlTime doc place (1 + time_bytes (get_or doc place 0))
      go (yes k) l = rw (lt-ltb _ _ k) (payloads.three_bytes b (omega arith))
      go (no k) (yes l) = rw (le-ltb (get_or doc place 0) 3 (omega arith), lt-ltb _ _ l) (payloads.four_bytes b (omega arith) (omega arith))
      go (no k) (no l) = rw (le-ltb (get_or doc place 0) 3 (omega arith), le-ltb (get_or doc place 0) 5 (omega arith)) (payloads.five_bytes b (omega arith) h)

  -- ---- found: derived

  abbrev PayloadIs : Shape → ℕ → Result Field Refusal → Type 0
  PayloadIs h at (Ok (field.Payload place size)) = PayloadAt doc h at place size
  PayloadIs h at (Ok (field.Reference n next)) = Unit
  PayloadIs h at (Err r) = Unit

  -- before the rules on its bytes
  abbrev Before : Shape → ℕ → Result Field Refusal → Type 0
  Before h at (Ok (field.Payload place size)) = lawful h (part doc place size) ≡ true → PayloadAt doc h at place size
  Before h at (Ok (field.Reference n next)) = Unit
  Before h at (Err r) = Unit

  ruled_is : (h : Shape) (at : ℕ) (f : Result Field Refusal) → Before h at f → PayloadIs h at (ruled h doc at f)
  ruled_is h at (Ok (field.Payload place size)) k = cond_if (PayloadIs h at) (lawful h (part doc place size)) _ _ k (λ t. tt)
  ruled_is h at (Ok (field.Reference n next)) k = tt
  ruled_is h at (Err r) k = tt

  needed_is : (h : Shape) (at place size : ℕ) → (place + size ≤ length doc → lawful h (part doc place size) ≡ true → PayloadAt doc h at place size) → Before h at (needed doc place size)
  unfolding needed
  needed_is h at place size k = cond_if (Before h at) (leb (place + size) (length doc)) _ _ (λ t. k (leb-true _ _ t)) (λ t. tt)

  text_is : (most at : ℕ) (n : Result numbers.Number Refusal) → NumberIs doc most (at + 1) n → Before (shape.Text most) at (text_payload (text_judged doc n))
  text_is most at (Ok n) d =
      cond_if (λ (t : Result texts.Text Refusal). Before (shape.Text most) at (text_payload t)) (leb (n.next + 2 * n.value) (length doc)) _ _
      (λ t l. textdata d (leb-true _ _ t)) (λ t. tt)
  text_is most at (Err r) d = tt

  blob_is : (most at : ℕ) (n : Result numbers.Number Refusal) → NumberIs doc most (at + 1) n → Before (shape.Blob most) at (blob_after doc n)
  blob_is most at (Ok n) d = needed_is (shape.Blob most) at n.next n.value (λ h l. blob d h)
  blob_is most at (Err r) d = tt

  page_is : (most at : ℕ) (n : Result numbers.Number Refusal) → NumberIs doc most (at + 1) n → Before (shape.CodePage most) at (blob_after doc n)
  unfolding lawful
  page_is most at (Ok n) d =
      needed_is (shape.CodePage most) at n.next n.value (λ h l. codepagetext d h (rw (part_length doc n.next n.value h) at (leb-true 4 (length (part doc n.next n.value)) l)))
  page_is most at (Err r) d = tt

  decimal_is : (at : ℕ) (n : Result numbers.Number Refusal) → NumberIs doc 5 (at + 1) n → Before shape.Decimal at (decimal_after doc at n)
  unfolding lawful decimal_lawful
  decimal_is at (Ok n) d =
      cond_if (Before shape.Decimal at) (decimal_size n.value) _ _
      (λ t. needed_is shape.Decimal at n.next n.value (λ h l. go h t l)) (λ t. tt)
    where
      next : ℕ
      next = n.next

      size : ℕ
      size = n.value

      go : next + size ≤ length doc → decimal_size size ≡ true → lawful shape.Decimal (part doc next size) ≡ true → PayloadAt doc shape.Decimal at next size
      go h t l =
          let p = part doc next size in
          let z = size_decimal (decimal_size_lem size t) in
          let m = z.1 in
          let a = decimal_size (length p) && leb (get_or p 0 0) 38 && leb (get_or p 1 0) (get_or p 0 0) in
          let b = decimal_size (length p) && leb (get_or p 0 0) 38 in
          let e0 : get_or p 0 0 ≡ get_or doc next 0 = part_first doc next size (omega arith) in
          let e1 : get_or p 1 0 ≡ get_or doc (next + 1) 0 = part_at_lem doc next size 1 (omega arith) in
          let e2 : get_or p 2 0 ≡ get_or doc (next + 2) 0 = part_at_lem doc next size 2 (omega arith) in
          let s : get_or p 2 0 ≤ 1 = leb-true _ _ (and_right a _ l) in
          let k : get_or p 1 0 ≤ get_or p 0 0 = leb-true _ _ (and_right b _ (and_left a _ l)) in
          let q : get_or p 0 0 ≤ 38 = leb-true _ _ (and_right (decimal_size (length p)) _ (and_left b _ (and_left a _ l))) in
          decimal d (decimal_size_lem size t) h (omega arith) (omega arith) (omega arith)
  decimal_is at (Err r) d = tt

  time_is : (h : Shape) (at more : ℕ) → (at + 1 < length doc → get_or doc (at + 1) 0 ≤ 7 → (at + 1) + (1 + time_bytes (get_or doc (at + 1) 0) + more) ≤ length doc
      → lawful h (part doc (at + 1) (1 + time_bytes (get_or doc (at + 1) 0) + more)) ≡ true → PayloadAt doc h at (at + 1) (1 + time_bytes (get_or doc (at + 1) 0) + more))
      → Before h at (time_field doc at more)
  unfolding time_field
  time_is h at more k =
      cond_if (Before h at) (ltb (at + 1) (length doc)) _ _
      (λ t. cond_if (Before h at) (leb (get_or doc (at + 1) 0) 7) _ _ (λ u. needed_is h at (at + 1) _ (k (ltb-true _ _ t) (leb-true _ _ u))) (λ u. tt)) (λ t. tt)

  day_of_fact : (first last place : ℕ) {l : List ℕ} → l ≡ part doc place 3 → day_within first last l ≡ true → SqlDate doc first last place
  unfolding day_within
  day_of_fact first last place e d =
      let k = rw e at d in
      record { from = leb-true _ _ (and_left (leb first (little (part doc place 3))) _ k); to = leb-true _ _ (and_right (leb first (little (part doc place 3))) _ k) }

  zone_of : (place : ℕ) {l : List ℕ} → l ≡ part doc place 2 → zone_lawful l ≡ true → SqlTimeZone doc place
  unfolding zone_lawful
  zone_of place e z = record { within = go (leb (little (part doc place 2)) 840) (leb 64696 (little (part doc place 2))) refl refl (rw e at z) }
    where
      go : (a b : Bool) → leb (little (part doc place 2)) 840 ≡ a → leb 64696 (little (part doc place 2)) ≡ b → (a || b) ≡ true
          → (little (part doc place 2) ≤ 840) ⊎ (64696 ≤ little (part doc place 2))
      go true b p q e = inl (leb-true _ _ p)
      go false true p q e = inr (leb-true _ _ q)
      go false false p q e = clash (cc)

  -- the date after a time of so many bytes
  dated : (at time more first last : ℕ) → 3 ≤ more → 1 + time_bytes (get_or doc (at + 1) 0) ≡ time → time_lawful more first last (part doc (at + 1) (time + more)) ≡ true
      → SqlDate doc first last ((at + 1) + time)
  unfolding time_lawful
  dated at time more first last m e l =
      let e0 : get_or (part doc (at + 1) (time + more)) 0 0 ≡ get_or doc (at + 1) 0 = part_first doc (at + 1) (time + more) (omega arith) in
      let k = rw (e0, e) at l in
      day_of_fact first last ((at + 1) + time) (part_part doc (at + 1) (time + more) time 3 (omega arith))
      (and_right (leb (get_or doc (at + 1) 0) 7 && eqb (length (part doc (at + 1) (time + more))) (time + more)) _ k)

  time_lawful_fact : (at first last : ℕ) → at + 1 < length doc → get_or doc (at + 1) 0 ≤ 7 → (time : ℕ) → 1 + time_bytes (get_or doc (at + 1) 0) ≡ time
      → (at + 1) + (time + 3) ≤ length doc → lawful (shape.Time first last) (part doc (at + 1) (time + 3)) ≡ true → PayloadAt doc (shape.Time first last) at (at + 1) (time + 3)
  unfolding lawful
  time_lawful_fact at first last i h time e k l = sqldatetime2 (rw e at (time_of (at + 1) i h)) k (dated at time 3 first last (omega arith) e l)

  zoned_lawful_fact : (at first last : ℕ) → at + 1 < length doc → get_or doc (at + 1) 0 ≤ 7 → (time : ℕ) → 1 + time_bytes (get_or doc (at + 1) 0) ≡ time
      → (at + 1) + (time + 5) ≤ length doc → lawful (shape.ZonedTime first last) (part doc (at + 1) (time + 5)) ≡ true → PayloadAt doc (shape.ZonedTime first last) at (at + 1) (time + 5)
  unfolding lawful zoned_lawful
  zoned_lawful_fact at first last i h time e k l =
      let p = part doc (at + 1) (time + 5) in
      let n : length p - 2 ≡ time + 3 = let q = part_length doc (at + 1) (time + 5) k in omega arith in
      let z = rw n at (and_right (time_lawful 5 first last p) _ l) in
      sqldatetimeoffset (rw e at (time_of (at + 1) i h)) k (dated at time 5 first last (omega arith) e (and_left (time_lawful 5 first last p) _ l))
      (zone_of ((at + 1) + (time + 3)) (part_part doc (at + 1) (time + 5) (time + 3) 2 (omega arith)) z)

  stamp_lawful : (at low : ℕ) → (at + 1) + 8 ≤ length doc → lawful (shape.Stamp low) (part doc (at + 1) 8) ≡ true → PayloadAt doc (shape.Stamp low) at (at + 1) 8
  unfolding lawful
  stamp_lawful at low h l =
      let q = eqb-true _ _ (and_right (eqb (length (part doc (at + 1) 8)) 8) _ l) in
      stamp h (sym (ap (λ (k : ℕ). k % 4) (part_first doc (at + 1) 8 (omega arith))) ∙ q)

  date_lawful : (at first last : ℕ) → (at + 1) + 3 ≤ length doc → lawful (shape.Date first last) (part doc (at + 1) 3) ≡ true → PayloadAt doc (shape.Date first last) at (at + 1) 3
  unfolding lawful
  date_lawful at first last h l = sqldate h (day_of_fact first last (at + 1) refl (and_right (eqb (length (part doc (at + 1) 3)) 3) _ l))

  qname_none : (at : ℕ) (n : Result numbers.Number Refusal) → Before shape.Qname at (qname_payload n)
  qname_none at (Ok n) = tt
  qname_none at (Err r) = tt

  extent_is : (h : Shape) (at : ℕ) → Before h at (extent_at h doc at)
  unfolding extent_at text_at
  extent_is shape.Nothing at = needed_is shape.Nothing at (at + 1) 0 (λ h l. nothing h)
  extent_is (shape.Fixed size) at = needed_is (shape.Fixed size) at (at + 1) size (λ h l. bytes h)
  extent_is (shape.Text most) at = text_is most at (number_at most doc (at + 1)) (number_is doc most (at + 1))
  extent_is (shape.Blob most) at = blob_is most at (number_at most doc (at + 1)) (number_is doc most (at + 1))
  extent_is (shape.CodePage most) at = page_is most at (number_at most doc (at + 1)) (number_is doc most (at + 1))
  extent_is shape.Decimal at = decimal_is at (number_at 5 doc (at + 1)) (number_is doc 5 (at + 1))
  extent_is shape.Qname at = qname_none at (number_at 5 doc (at + 1))
  extent_is (shape.Stamp low) at = needed_is (shape.Stamp low) at (at + 1) 8 (λ h l. stamp_lawful at low h l)
  extent_is (shape.Date first last) at = needed_is (shape.Date first last) at (at + 1) 3 (λ h l. date_lawful at first last h l)
  extent_is (shape.Time first last) at = time_is (shape.Time first last) at 3 (λ i h k l. time_lawful_fact at first last i h _ refl k l)
  extent_is (shape.ZonedTime first last) at = time_is (shape.ZonedTime first last) at 5 (λ i h k l. zoned_lawful_fact at first last i h _ refl k l)

  pub payload_found : (h : Shape) (at : ℕ) {place size : ℕ} → field_at h doc at ≡ Ok (field.Payload place size) → PayloadAt doc h at place size
  unfolding field_at
  payload_found h at e = subst (PayloadIs h at) e (ruled_is h at (extent_at h doc at) (extent_is h at))

  -- ---- derived: found

  dated_lawful : (at more first last : ℕ) {time : ℕ} → 3 ≤ more → Timed (at + 1) time → (at + 1) + (time + more) ≤ length doc → SqlDate doc first last ((at + 1) + time)
      → time_lawful more first last (part doc (at + 1) (time + more)) ≡ true
  unfolding time_lawful day_within
  dated_lawful at more first last {time} m t k d =
      let e0 : get_or (part doc (at + 1) (time + more)) 0 0 ≡ get_or doc (at + 1) 0 = part_first doc (at + 1) (time + more) (omega arith) in
      let p : part (part doc (at + 1) (time + more)) time 3 ≡ part doc ((at + 1) + time) 3 = part_part doc (at + 1) (time + more) time 3 (omega arith) in
      rw (e0, t.is, le-leb _ _ t.low, part_length doc (at + 1) (time + more) k, eq-eqb (time + more) (time + more) refl, p, le-leb _ _ d.from, le-leb _ _ d.to)

  zone_lawful_fact : (place : ℕ) → SqlTimeZone doc place → zone_lawful (part doc place 2) ≡ true
  unfolding zone_lawful
  zone_lawful_fact place z = go z.within
    where
      or_right : (a : Bool) → (a || true) ≡ true
      or_right true = refl
      or_right false = refl

      go : (little (part doc place 2) ≤ 840) ⊎ (64696 ≤ little (part doc place 2)) → zone_lawful (part doc place 2) ≡ true
      go (inl h) = rw (le-leb _ _ h)
      go (inr h) = rw (le-leb _ _ h) (or_right (leb (little (part doc place 2)) 840))

  pub payload_derived : {h : Shape} {at place size : ℕ} → PayloadAt doc h at place size → field_at h doc at ≡ Ok (field.Payload place size)
  unfolding field_at extent_at needed lawful text_at decimal_lawful day_within time_field zoned_lawful
  payload_derived (nothing {at = at} h) = rw (le-leb _ _ h, part_length doc (at + 1) 0 h)
  payload_derived (bytes {at = at} {size = size} h) = rw (le-leb _ _ h, part_length doc (at + 1) size h, eq-eqb size size refl)
  payload_derived (textdata {units = units} {place = place} n h) =
      let z : (2 * units) % 2 ≡ 0 = omega arith in
      rw (number_derived doc n, le-leb _ _ h, part_length doc place (2 * units) h, z)
  payload_derived (blob n h) = rw (number_derived doc n, le-leb _ _ h)
  payload_derived (codepagetext {place = place} {size = size} n h l) = rw (number_derived doc n, le-leb _ _ h, part_length doc place size h, le-leb _ _ l)
  payload_derived (decimal {place = place} {size = size} n d h a b c) =
      let z = size_decimal d in
      let m = z.1 in
      rw (number_derived doc n, z.0, le-leb _ _ h, part_length doc place size h, z.0, part_first doc place size (omega arith), part_at_lem doc place size 1 (omega arith), part_at_lem doc place size 2 (omega arith), le-leb _ _ a, le-leb _ _ b, le-leb _ _ c)
  payload_derived (stamp {low = low} {at = at} h e) =
      rw (le-leb _ _ h, part_length doc (at + 1) 8 h, part_first doc (at + 1) 8 (omega arith), e, eq-eqb low low refl)
  payload_derived (sqldate {at = at} h d) = rw (le-leb _ _ h, part_length doc (at + 1) 3 h, le-leb _ _ d.from, le-leb _ _ d.to)
  payload_derived (sqldatetime2 {first = first} {last = last} {at = at} t h d) =
      let r = timed t in
      rw (lt-ltb _ _ r.inside, le-leb _ _ r.low, r.is, le-leb _ _ h, dated_lawful at 3 first last (omega arith) r h d)
  payload_derived (sqldatetimeoffset {first = first} {last = last} {at = at} {time = time} t h d z) =
      let r = timed t in
      let n : (time + 5) - 2 ≡ time + 3 = omega arith in
      let p : part (part doc (at + 1) (time + 5)) (time + 3) 2 ≡ part doc ((at + 1) + (time + 3)) 2 = part_part doc (at + 1) (time + 5) (time + 3) 2 (omega arith) in
      rw (lt-ltb _ _ r.inside, le-leb _ _ r.low, r.is, le-leb _ _ h, dated_lawful at 5 first last (omega arith) r h d, part_length doc (at + 1) (time + 5) h, n, p, zone_lawful_fact _ z)

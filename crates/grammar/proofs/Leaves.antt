-- Numbers, texts, names, qnames and headers: the grammar derives one where reading finds it, and reading finds what the
-- grammar derives. Assumes nothing.
use Prim.Native.Nat.{ℕ, zero, suc, ◌+◌, ◌*◌, ◌≤◌, ◌<◌}
use mathlib.Core.Path.{◌≡◌, refl, subst}
use mathlib.Core.Bool.{◌&&◌}
use mathlib.Core.List.{List}
use native.Mathlib.Decide.{dec_lt}
use native.Mathlib.Numerals.{add-one}
use native.Mathlib.Omega.{arith}
use lib.Dec.{ltb, leb}
use lib.ListN.{length, get_or, drop, drop_of_length-le}
use lib.Seq.{drop-cons}
use borrow.Author.Tests.{ltb-true, ltb-false, leb-true, lt-ltb, le-ltb, le-leb}
use Rattle.sequences.proofs.Tests.{cond_if, and_left, and_right}
use Rattle.std.specs.Prelude.{Result, Ok, Err}
use Rattle.token.specs.Tokens.{largest}
use Rattle.token.specs.declared.Refusal.{Refusal}
use Rattle.token.specs.declared.NameNumber.{NameNumber}
use Rattle.token.specs.declared.QnameNumber.{QnameNumber}
use Rattle.number.specs.Number.{NumberFront, spelled, unended, cut, after, front, number, number_at}
use Rattle.number.specs.Number as numbers
use Rattle.number.specs.declared.Number as declared
use Rattle.value.specs.Fields.{text, text_judged, text_at}
use Rattle.value.specs.declared.Text.{Text}
use Rattle.fields.specs.Fields.{name, name_judged, name_at, qname, qname_judged, qname_at, header, header_judged, header_at}
use Rattle.fields.specs.declared.Name as names
use Rattle.fields.specs.declared.Qname as qnames
use Rattle.fields.specs.declared.Header as headers
use Rattle.grammar.specs.Grammar.{Point, Byte, Digits, lowbyte, highbyte, MultiByte, TextData, NameReference, QnameReference, HeaderBytes}

module _ (doc : List ℕ) where
  -- ---- numbers

  abbrev FrontIs : ℕ → ℕ → NumberFront → Type 0
  FrontIs most p (spelled value size) = Digits doc most p value (p + size)
  FrontIs most p unended = Unit
  FrontIs most p cut = Unit

  after_is : (most p b : ℕ) → Byte doc p b → 128 ≤ b → (f : NumberFront) → FrontIs most (p + 1) f → FrontIs (suc most) p (after b f)
  after_is most p b e h (spelled value size) d =
      let q : (p + 1) + size ≡ p + suc size = omega arith in
      rw (← q) (highbyte e h d)
  after_is most p b e h unended d = tt
  after_is most p b e h cut d = tt

  front_is : (most p : ℕ) → FrontIs most p (front most (drop p doc))
  unfolding front
  front_is zero p = tt
  front_is (suc most) p = go (dec_lt p (length doc)) (front_is most (p + 1))
    where
      go : Dec (p < length doc) → FrontIs most (p + 1) (front most (drop (p + 1) doc)) → FrontIs (suc most) p (front (suc most) (drop p doc))
      go (yes h) again =
          rw (drop-cons doc p 0 h, ← add-one p)
          (cond_if (FrontIs (suc most) p) (ltb (get_or doc p 0) 128) _ _ (λ t. lowbyte (record { inside = h; is = refl }) (ltb-true _ _ t))
          (λ t. after_is most p (get_or doc p 0) (record { inside = h; is = refl }) (ltb-false _ _ t) (front most (drop (p + 1) doc)) again))
      go (no h) again = rw (drop_of_length-le doc (let l : length doc ≤ p = omega arith in l)) tt

  -- what reading finds where digits are derived
  record Spells (most p value q : ℕ) : Type 0 where
    size : ℕ
    front_of : front most (drop p doc) ≡ spelled value size
    ends : p + size ≡ q

  spells : {most p value q : ℕ} → Digits doc most p value q → Spells most p value q
  unfolding front
  spells (lowbyte {p = p} e h) =
      record { size = 1; front_of = rw (drop-cons doc p 0 e.inside, e.is, lt-ltb _ _ h); ends = refl }
  spells (highbyte {p = p} e h d) =
      let r = spells d in
      let z = r.ends in
      record { size = suc r.size; front_of = rw (drop-cons doc p 0 e.inside, e.is, le-ltb _ _ h, ← add-one p, r.front_of); ends = omega arith }

  abbrev pub NumberIs : ℕ → ℕ → Result declared.Number Refusal → Type 0
  NumberIs most p (Ok n) = MultiByte doc most p n.value n.next
  NumberIs most p (Err r) = Unit

  judged_is : (most p : ℕ) (f : NumberFront) → FrontIs most p f → NumberIs most p (numbers.number_judged doc p f)
  judged_is most p (spelled value size) d =
      cond_if (NumberIs most p) (leb value largest) _ _ (λ t. record { spelled = d; small = leb-true _ _ t }) (λ t. tt)
  judged_is most p unended d = tt
  judged_is most p cut d = tt

  pub number_is : (most p : ℕ) → NumberIs most p (number_at most doc p)
  unfolding number_at
  number_is most p = judged_is most p (front most (drop p doc)) (front_is most p)

  pub number_found : (most p : ℕ) {value next : ℕ} → number_at most doc p ≡ Ok (number value next) → MultiByte doc most p value next
  number_found most p e = subst (NumberIs most p) e (number_is most p)

  pub number_derived : {most p value next : ℕ} → MultiByte doc most p value next → number_at most doc p ≡ Ok (number value next)
  unfolding number_at
  number_derived n =
      let r = spells n.spelled in
      rw (r.front_of, le-leb _ _ n.small, r.ends)

  -- ---- texts

  abbrev TextIs : ℕ → Result Text Refusal → Type 0
  TextIs p (Ok t) = TextData doc p t.place t.units
  TextIs p (Err r) = Unit

  text_after_fact : (p : ℕ) (n : Result declared.Number Refusal) → NumberIs 5 p n → TextIs p (text_judged doc n)
  text_after_fact p (Ok n) d =
      cond_if (TextIs p) (leb (n.next + 2 * n.value) (length doc)) _ _ (λ t. record { length32 = d; there = leb-true _ _ t }) (λ t. tt)
  text_after_fact p (Err r) d = tt

  text_is : (p : ℕ) → TextIs p (text_at 5 doc p)
  unfolding text_at
  text_is p = text_after_fact p (number_at 5 doc p) (number_is 5 p)

  pub text_found : (p : ℕ) {place units : ℕ} → text_at 5 doc p ≡ Ok (text place units) → TextData doc p place units
  text_found p e = subst (TextIs p) e (text_is p)

  pub text_derived : {p place units : ℕ} → TextData doc p place units → text_at 5 doc p ≡ Ok (text place units)
  unfolding text_at
  text_derived d = rw (number_derived d.length32, le-leb _ _ d.there)

  -- ---- names and qnames

  abbrev NameIs : Point → ℕ → Result names.Name Refusal → Type 0
  NameIs s p (Ok n) = NameReference doc s p n.number.0 n.next
  NameIs s p (Err r) = Unit

  name_after_fact : (s : Point) (p : ℕ) (n : Result declared.Number Refusal) → NumberIs 5 p n → NameIs s p (name_judged (length s.known) p n)
  name_after_fact s p (Ok n) d =
      cond_if (NameIs s p) (leb n.value (length s.known)) _ _ (λ t. record { mb32 = d; defined = leb-true _ _ t }) (λ t. tt)
  name_after_fact s p (Err r) d = tt

  name_is_fact : (s : Point) (p : ℕ) → NameIs s p (name_at (length s.known) doc p)
  unfolding name_at
  name_is_fact s p = name_after_fact s p (number_at 5 doc p) (number_is 5 p)

  pub name_found : (s : Point) (p : ℕ) {k : NameNumber} {next : ℕ} → name_at (length s.known) doc p ≡ Ok (name k next) → NameReference doc s p k.0 next
  name_found s p e = subst (NameIs s p) e (name_is_fact s p)

  pub name_derived : (s : Point) {p k next : ℕ} → NameReference doc s p k next → name_at (length s.known) doc p ≡ Ok (name (record { 0 = k }) next)
  unfolding name_at
  name_derived s d = rw (number_derived d.mb32, le-leb _ _ d.defined)

  abbrev QnameIs : Point → ℕ → Result qnames.Qname Refusal → Type 0
  QnameIs s p (Ok n) = QnameReference doc s p n.number.0 n.next
  QnameIs s p (Err r) = Unit

  qname_after : (s : Point) (p : ℕ) (n : Result declared.Number Refusal) → NumberIs 5 p n → QnameIs s p (qname_judged (length s.qknown) p n)
  qname_after s p (Ok n) d =
      cond_if (QnameIs s p) (leb 1 n.value && leb n.value (length s.qknown)) _ _
      (λ t. record { mb32 = d; positive = leb-true _ _ (and_left (leb 1 n.value) _ t); defined = leb-true _ _ (and_right (leb 1 n.value) _ t) }) (λ t. tt)
  qname_after s p (Err r) d = tt

  qname_is : (s : Point) (p : ℕ) → QnameIs s p (qname_at (length s.qknown) doc p)
  unfolding qname_at
  qname_is s p = qname_after s p (number_at 5 doc p) (number_is 5 p)

  pub qname_found : (s : Point) (p : ℕ) {k : QnameNumber} {next : ℕ} → qname_at (length s.qknown) doc p ≡ Ok (qname k next) → QnameReference doc s p k.0 next
  qname_found s p e = subst (QnameIs s p) e (qname_is s p)

  pub qname_derived : (s : Point) {p k next : ℕ} → QnameReference doc s p k next → qname_at (length s.qknown) doc p ≡ Ok (qname (record { 0 = k }) next)
  unfolding qname_at
  qname_derived s d = rw (number_derived d.mb32, le-leb _ _ d.positive, le-leb _ _ d.defined)

  -- ---- headers

  -- a byte that is judged right lies between the two bounds
  judged_if : (P : Result headers.Header Refusal → Type 0) → ((r : Refusal) → P (Err r)) → (at first last : ℕ) (on : Result headers.Header Refusal)
      → (at < length doc → first ≤ get_or doc at 0 → get_or doc at 0 ≤ last → P on) → P (header_judged doc at first last on)
  judged_if P r at first last on f =
      cond_if P (ltb at (length doc)) _ _
      (λ t. cond_if P (leb first (get_or doc at 0) && leb (get_or doc at 0) last) _ _
      (λ u. f (ltb-true _ _ t) (leb-true _ _ (and_left (leb first (get_or doc at 0)) _ u)) (leb-true _ _ (and_right (leb first (get_or doc at 0)) _ u)))
      (λ u. r _)) (λ t. r _)

  abbrev HeaderIs : ℕ → Result headers.Header Refusal → Type 0
  HeaderIs p (Ok h) = HeaderBytes doc p h.version × (h.next ≡ p + 5)
  HeaderIs p (Err r) = Unit

  header_is : (p : ℕ) → HeaderIs p (header_at doc p)
  unfolding header_at
  header_is p =
      judged_if (HeaderIs p) (λ r. tt) p _ _ _ λ i1 l1 h1.
      judged_if (HeaderIs p) (λ r. tt) (p + 1) _ _ _ λ i2 l2 h2.
      judged_if (HeaderIs p) (λ r. tt) (p + 2) _ _ _ λ i3 l3 h3.
      judged_if (HeaderIs p) (λ r. tt) (p + 3) _ _ _ λ i4 l4 h4.
      judged_if (HeaderIs p) (λ r. tt) (p + 4) _ _ _ λ i5 l5 h5. (
        record {
          signature = record { inside = i1; is = omega arith };
          signature' = record { inside = i2; is = omega arith };
          version_is = record { inside = i3; is = refl };
          version_low = l3;
          version_high = h3;
          encoding = record { inside = i4; is = omega arith };
          encoding' = record { inside = i5; is = omega arith };
        },
        refl,
      )

  pub header_found : (p : ℕ) {version next : ℕ} → header_at doc p ≡ Ok (header version next) → HeaderBytes doc p version × (next ≡ p + 5)
  header_found p e = subst (HeaderIs p) e (header_is p)

  pub header_derived : {p version : ℕ} → HeaderBytes doc p version → header_at doc p ≡ Ok (header version (p + 5))
  unfolding header_at
  header_derived h =
      rw (lt-ltb _ _ h.signature.inside, h.signature.is, lt-ltb _ _ h.signature'.inside, h.signature'.is, lt-ltb _ _ h.version_is.inside, h.version_is.is, le-leb _ _ h.version_low, le-leb _ _ h.version_high, lt-ltb _ _ h.encoding.inside, h.encoding.is, lt-ltb _ _ h.encoding'.inside, h.encoding'.is)

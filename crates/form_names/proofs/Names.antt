-- What the walk writes before an event, and what it keeps after it, is what the form says. Assumes nothing.
use Prim.Native.Nat.{ℕ, zero, suc, ◌+◌, ◌*◌, ◌≤◌, ◌<◌}
use mathlib.Core.Path.{◌≡◌, refl, sym, ◌∙◌, ap}
use mathlib.Core.Bool.{Bool, true, false, cond}
use mathlib.Core.List.{List, [], ◌∷◌, ◌++◌}
use native.Mathlib.Omega.{arith}
use lib.ListN.{length, get_or, length-append, length-set}
use borrow.Author.Tests.{eqb-true}
use Rattle.sequences.specs.Lists.{same}
use Rattle.form.specs.Canonical.{Triple, place, absent, fresh, number_of, grown_if, grown, definition, with_texts, definitions, qname_bytes}
use Rattle.form.proofs.Places.{Tells, tells_text, present, absent_place, place_grows, place_last}
use Rattle.form_slots.specs.declared.Parts.{Parts}
use Rattle.form_names.specs.Naming.{class_text, bytes_before, slots1, slots2, slots3, texts_before, qname_numbers, names_after}
use Rattle.form_slots.specs.Slots.{is_new, marked, slots_after, number_in, Low, PartsFit, Trails, region, slot_count}
use Rattle.form_slots.proofs.TrailLaws.{trails_marked}
use Rattle.token.specs.Tokens.{name_rows, nested_documents}
use Rattle.form_names.proofs.Marks.{Marks, slot_new, slot_defined, marks_more, Agree, agree_same, agree_then, marked_agree, marked_low}

-- ---- any element

module _ {A : Type 0} (same : A → A → Bool) (tells : Tells same) (T : List A) (few : length T ≤ 1024) {c : List A} {slots : List ℕ} {base : ℕ}
    (m : Marks same T c slots base) (room : base + region ≤ length slots) where
  pub new_any : (a : A) → place same T a < length T → is_new slots base (suc (place same T a)) ≡ absent same c a
  new_any a h = rw (m.at a h) (slot_new same c a)

  pub after_any : (a : A) → place same T a < length T → Marks same T (grown_if (absent same c a) c a) (slots_after slots base (suc (place same T a))) base
  unfolding slots_after grown_if
  after_any a h = rw (new_any a h) (go (absent same c a) refl)
    where
      go : (t : Bool) → absent same c a ≡ t → Marks same T (cond t (c ++ (a ∷ [])) c) (cond t (marked slots base (suc (place same T a))) slots) base
      go true e = marks_more same tells T c slots base a room few h e m
      go false e = m

  pub number_any : (a : A) → place same T a < length T → place same c a < length c → number_in slots base (suc (place same T a)) ≡ suc (place same c a)
  number_any a h l = m.at a h ∙ slot_defined same c a l

-- an element that was needed is there, under the number that it had or was to get
pub grown_any : {A : Type 0} (same : A → A → Bool) (tells : Tells same) (c : List A) (a : A)
    → (place same (grown_if (absent same c a) c a) a < length (grown_if (absent same c a) c a)) × (place same (grown_if (absent same c a) c a) a ≡ place same c a)
unfolding grown_if
grown_any same tells c a = go (absent same c a) refl
  where
    longer : length (c ++ (a ∷ [])) ≡ suc (length c)
    longer = rw length-append (omega arith)

    go : (t : Bool) → absent same c a ≡ t → (place same (cond t (c ++ (a ∷ [])) c) a < length (cond t (c ++ (a ∷ [])) c)) × (place same (cond t (c ++ (a ∷ [])) c) a ≡ place same c a)
    go true e =
        let p = place_last same tells c a e in
        let q = absent_place same c a e in
        (omega (arith, p, longer), p ∙ sym q)
    go false e = (present same c a e, refl)

pub slots_agree : (slots : List ℕ) (base class : ℕ) → Agree base slots (slots_after slots base class)
unfolding slots_after
slots_agree slots base class = go (is_new slots base class)
  where
    go : (t : Bool) → Agree base slots (cond t (marked slots base class) slots)
    go true = marked_agree slots base class
    go false = agree_same base slots

pub slots_long : (slots : List ℕ) (base class : ℕ) → length (slots_after slots base class) ≡ length slots
unfolding slots_after marked
slots_long slots base class = go (is_new slots base class)
  where
    go : (t : Bool) → length (cond t (marked slots base class) slots) ≡ length slots
    go true = rw (length-set, length-set, length-set, length-set)
    go false = refl

pub slots_low : (most : ℕ) (slots : List ℕ) (base class : ℕ) → class ≤ most + 1 → Low most slots → Low (most + 1) (slots_after slots base class)
unfolding slots_after
slots_low most slots base class small l = go (is_new slots base class)
  where
    go : (t : Bool) → Low (most + 1) (cond t (marked slots base class) slots)
    go true = marked_low most slots base class small l
    go false = record { long = l.long; each = λ k. let h = l.each k in omega arith }

-- the same after the names of a qname
pub slots3_agree : (slots : List ℕ) (base : ℕ) (q : Parts) → Agree base slots (slots3 slots base q)
unfolding slots1 slots2 slots3
slots3_agree slots base q =
    agree_then (slots_agree slots base q.uri.0)
    (agree_then (slots_agree (slots_after slots base q.uri.0) base q.prefix.0) (slots_agree (slots_after (slots_after slots base q.uri.0) base q.prefix.0) base q.local.0))

pub slots3_long : (slots : List ℕ) (base : ℕ) (q : Parts) → length (slots3 slots base q) ≡ length slots
unfolding slots1 slots2 slots3
slots3_long slots base q =
    slots_long (slots_after (slots_after slots base q.uri.0) base q.prefix.0) base q.local.0 ∙ slots_long (slots_after slots base q.uri.0) base q.prefix.0
    ∙ slots_long slots base q.uri.0

pub slots3_low : (most : ℕ) (slots : List ℕ) (base : ℕ) (q : Parts) → PartsFit most q → Low most slots → Low (most + 3) (slots3 slots base q)
unfolding slots1 slots2 slots3
slots3_low most slots base q fit l =
    let z : ((most + 1) + 1) + 1 ≡ most + 3 = omega arith in
    let u = fit.uri_in in
    let v = fit.prefix_in in
    let w = fit.local_in_fact in
    rw z at (slots_low ((most + 1) + 1) _ base q.local.0 (omega arith) (slots_low (most + 1) _ base q.prefix.0 (omega arith) (slots_low most slots base q.uri.0 (omega arith) l)))

pub names_agree : (slots qslots : List ℕ) (base : ℕ) (q : Parts) (class : ℕ) → Agree base slots (names_after slots qslots base q class)
unfolding names_after
names_agree slots qslots base q class = go (is_new qslots base class)
  where
    go : (t : Bool) → Agree base slots (cond t (slots3 slots base q) slots)
    go true = slots3_agree slots base q
    go false = agree_same base slots

pub names_long : (slots qslots : List ℕ) (base : ℕ) (q : Parts) (class : ℕ) → length (names_after slots qslots base q class) ≡ length slots
unfolding names_after
names_long slots qslots base q class = go (is_new qslots base class)
  where
    go : (t : Bool) → length (cond t (slots3 slots base q) slots) ≡ length slots
    go true = slots3_long slots base q
    go false = refl

pub names_low : (most : ℕ) (slots qslots : List ℕ) (base : ℕ) (q : Parts) (class : ℕ) → PartsFit most q → Low most slots → Low (most + 3) (names_after slots qslots base q class)
unfolding names_after
names_low most slots qslots base q class fit l = go (is_new qslots base class)
  where
    go : (t : Bool) → Low (most + 3) (cond t (slots3 slots base q) slots)
    go true = slots3_low most slots base q fit l
    go false = record { long = l.long; each = λ k. let h = l.each k in omega arith }

-- ---- trails

-- a class that has to be defined is none of the empty text, and has no number yet
new_class : (slots : List ℕ) (base class : ℕ) → is_new slots base class ≡ true → (1 ≤ class) × (get_or slots (base + class) 0 ≡ 0)
new_class slots base zero e = absurd (let z : ◌≡◌ {A = ℕ} 0 1 = cc in let q : ⊥ = omega arith in q)
new_class slots base (suc k) e = (omega arith, eqb-true _ _ e)

module _ (d : ℕ) (few : d ≤ nested_documents) where
  pub slots_trails : (slots : List ℕ) (class : ℕ) → class ≤ name_rows → length slots ≡ slot_count → Trails slots → Trails (slots_after slots (region * d) class)
  unfolding slots_after
  slots_trails slots class small long x = go (is_new slots (region * d) class) refl
    where
      go : (t : Bool) → is_new slots (region * d) class ≡ t → Trails (cond t (marked slots (region * d) class) slots)
      go true e = let n = new_class slots (region * d) class e in trails_marked x d class n.0 small (omega (arith, long, few)) n.1
      go false e = x

  pub slots3_trails : (slots : List ℕ) (q : Parts) → PartsFit name_rows q → length slots ≡ slot_count → Trails slots → Trails (slots3 slots (region * d) q)
  unfolding slots1 slots2 slots3
  slots3_trails slots q fit long x =
      let l = slots_long slots (region * d) q.uri.0 ∙ long in
      let m = slots_long (slots_after slots (region * d) q.uri.0) (region * d) q.prefix.0 ∙ l in
      slots_trails _ q.local.0 fit.local_in_fact m (slots_trails _ q.prefix.0 fit.prefix_in l (slots_trails slots q.uri.0 fit.uri_in long x))

  pub names_trails : (slots qslots : List ℕ) (q : Parts) (class : ℕ) → PartsFit name_rows q → length slots ≡ slot_count → Trails slots → Trails (names_after slots qslots (region * d) q class)
  unfolding names_after
  names_trails slots qslots q class fit long x = go (is_new qslots (region * d) class)
    where
      go : (t : Bool) → Trails (cond t (slots3 slots (region * d) q) slots)
      go true = slots3_trails slots q fit long x
      go false = x

-- ---- texts

-- a text is empty, or in a list
pub data Has (c : List (List ℕ)) (t : List ℕ) : Type 0 where
  empty : t ≡ [] → Has c t
  among : place same c t < length c → Has c t

has_some : {c : List (List ℕ)} {b : ℕ} {t : List ℕ} → Has c (b ∷ t) → place same c (b ∷ t) < length c
has_some (empty e) = absurd (let z : ◌≡◌ {A = ℕ} 0 1 = cc in let q : ⊥ = omega arith in q)
has_some (among h) = h

pub has_grown : (c : List (List ℕ)) (t : List ℕ) → Has (grown c t) t
unfolding grown fresh
has_grown c [] = empty refl
has_grown c (b ∷ t) = among (grown_any same tells_text c (b ∷ t)).0

pub has_more : (c : List (List ℕ)) (s t : List ℕ) → Has c t → Has (grown c s) t
unfolding grown grown_if
has_more c s t (empty e) = empty e
has_more c s t (among h) = among (go (fresh c s))
  where
    go : (b : Bool) → place same (cond b (c ++ (s ∷ [])) c) t < length (cond b (c ++ (s ∷ [])) c)
    go true = let p = place_grows same c (s ∷ []) t h in let l : length (c ++ (s ∷ [])) ≡ suc (length c) = rw length-append (omega arith) in omega arith
    go false = h

pub number_grown : (c : List (List ℕ)) (t : List ℕ) → number_of (grown c t) t ≡ number_of c t
unfolding grown fresh number_of
number_grown c [] = refl
number_grown c (b ∷ t) = ap suc (grown_any same tells_text c (b ∷ t)).1

-- `T` are the texts of the rows of names
module _ (doc names : List ℕ) (T : List (List ℕ)) where
  -- the row that a class is the number of has its text
  pub record Classed : Type 0 where
    pub few : length T ≤ 1024
    pub text : (t : List ℕ) → place same T t < length T → class_text doc names (suc (place same T t)) ≡ t

  module _ (k : Classed) {c : List (List ℕ)} {slots : List ℕ} {base : ℕ} (m : Marks same T c slots base) (room : base + region ≤ length slots) where
    pub new_is : (t : List ℕ) → Has T t → is_new slots base (number_of T t) ≡ fresh c t
    unfolding number_of fresh
    new_is [] h = refl
    new_is (b ∷ t) h = new_any same tells_text T k.few m room (b ∷ t) (has_some h)

    pub bytes_are : (t : List ℕ) → Has T t → bytes_before doc names slots base (number_of T t) ≡ definition c t
    unfolding bytes_before definition number_of fresh
    bytes_are [] h = refl
    bytes_are (b ∷ t) h =
        let l = has_some h in
        rw (new_any same tells_text T k.few m room (b ∷ t) l, k.text (b ∷ t) l)

    pub slots_are : (t : List ℕ) → Has T t → Marks same T (grown c t) (slots_after slots base (number_of T t)) base
    unfolding slots_after grown number_of fresh grown_if
    slots_are [] h = m
    slots_are (b ∷ t) h = after_any same tells_text T k.few m room (b ∷ t) (has_some h)

    pub number_is : (t : List ℕ) → Has T t → Has c t → number_in slots base (number_of T t) ≡ number_of c t
    unfolding number_of
    number_is [] h l = refl
    number_is (b ∷ t) h l = number_any same tells_text T k.few m room (b ∷ t) (has_some h) (has_some l)

  -- ---- qnames

  -- the classes of a qname's texts
  abbrev pub parts_of : Triple → Parts
  parts_of q =
      record { uri = record { 0 = number_of T q.uri }; prefix = record { 0 = number_of T q.prefix }; local = record { 0 = number_of T q.local } }

  pub record Has3 (q : Triple) : Type 0 where
    pub uri : Has T q.uri
    pub prefix : Has T q.prefix
    pub local : Has T q.local

  module _ (k : Classed) {c : List (List ℕ)} {slots : List ℕ} {base : ℕ} (m : Marks same T c slots base) (low : length slots ≡ slot_count) (room : base + region ≤ slot_count)
      (q : Triple) (h : Has3 q) where
    room0 : base + region ≤ length slots
    room0 = omega arith

    m1 : Marks same T (grown c q.uri) (slots1 slots base (parts_of q)) base
    unfolding slots1
    m1 = slots_are k m room0 q.uri h.uri

    long1 : base + region ≤ length (slots1 slots base (parts_of q))
    unfolding slots1
    long1 = rw (slots_long slots base (number_of T q.uri)) room0

    m2 : Marks same T (grown (grown c q.uri) q.prefix) (slots2 slots base (parts_of q)) base
    unfolding slots2
    m2 = slots_are k m1 long1 q.prefix h.prefix

    long2 : base + region ≤ length (slots2 slots base (parts_of q))
    unfolding slots2
    long2 = rw (slots_long (slots1 slots base (parts_of q)) base (number_of T q.prefix)) long1

    pub slots3_are : Marks same T (with_texts c q) (slots3 slots base (parts_of q)) base
    unfolding slots3 with_texts
    slots3_are = slots_are k m2 long2 q.local h.local

    long3 : base + region ≤ length (slots3 slots base (parts_of q))
    unfolding slots3
    long3 = rw (slots_long (slots2 slots base (parts_of q)) base (number_of T q.local)) long2

    pub texts_are : texts_before doc names slots base (parts_of q) ≡ definitions c q
    unfolding texts_before definitions
    texts_are = rw (bytes_are k m room0 q.uri h.uri, bytes_are k m1 long1 q.prefix h.prefix, bytes_are k m2 long2 q.local h.local)

    pub numbers_are : qname_numbers (slots3 slots base (parts_of q)) base (parts_of q) ≡ qname_bytes (with_texts c q) q
    unfolding qname_numbers qname_bytes with_texts
    numbers_are =
        rw (
          number_is k slots3_are long3 q.uri h.uri has_uri,
          number_is k slots3_are long3 q.prefix h.prefix has_prefix,
          number_is k slots3_are long3 q.local h.local has_local,
        )
      where
        has_uri : Has (with_texts c q) q.uri
        has_uri = has_more _ q.local q.uri (has_more _ q.prefix q.uri (has_grown c q.uri))

        has_prefix : Has (with_texts c q) q.prefix
        has_prefix = has_more _ q.local q.prefix (has_grown _ q.prefix)

        has_local : Has (with_texts c q) q.local
        has_local = has_grown _ q.local

-- The ways out of the functions of this crate, and what they ask of those that they call. Assumes nothing.
use Prim.Native.Nat.{ℕ, zero, suc, ◌+◌, ◌-◌, ◌*◌, ◌/◌, ◌≤◌, ◌<◌}
use mathlib.Core.Path.{◌≡◌, refl, ◌∙◌, subst}
use mathlib.Core.Bool.{Bool, true, false, cond}
use mathlib.Core.List.{List, [], ◌∷◌, ◌++◌}
use native.Mathlib.Omega.{arith}
use lib.ListN.{length, get_or, set, length-append, length-take, length-drop}
use borrow.Author.Tests.{eq-eqb, ne_eqb}
use Rattle.sequences.specs.Lists.{part}
use Rattle.number.specs.Number.{shortest}
use Rattle.machine.specs.Tables.{NamesInside}
use Rattle.form.specs.Canonical.{with_units}
use Rattle.form_output.specs.Output.{Fits, Put}
use Rattle.form_output.proofs.Laws.{shortest_few, put_none, put_byte, put_then, fits_first, fits_next}
use Rattle.form_slots.specs.declared.Parts.{Parts}
use Rattle.form_slots.specs.Slots.{is_new, marked, slots_after, number_in, Low, PartsFit, region, slot_count}
use Rattle.form_names.specs.Naming.{class_text, bytes_before, slots1, slots2, slots3, texts_before, qname_numbers, qname_before, names_after}
use Rattle.form_names.proofs.Names.{slots_low, slots3_low}
use Rattle.form_slots.proofs.Slots.{low_more, parts_more, number_low}
use Rattle.token.specs.Tokens.{qname_width, name_rows}

part_few : (doc : List ℕ) (place size : ℕ) → length (part doc place size) ≤ length doc
part_few doc place size = rw (length-take, length-drop) (omega arith)

pub counted_few : (doc : List ℕ) (place size : ℕ) → length (with_units (part doc place size)) ≤ 5 + length doc
unfolding with_units
counted_few doc place size =
    let a = shortest_few (length (part doc place size) / 2) in
    let b = part_few doc place size in
    rw length-append (omega arith)

-- ---- the definition of a text

module _ (doc names slots : List ℕ) (base class : ℕ) where
  new_true : (class ≡ 0 → ⊥) → get_or slots (base + class) 0 ≡ 0 → is_new slots base class ≡ true
  new_true n e = go class n e
    where
      go : (k : ℕ) → (k ≡ 0 → ⊥) → get_or slots (base + k) 0 ≡ 0 → is_new slots base k ≡ true
      go zero n e = absurd (n refl)
      go (suc k) n e = eq-eqb _ _ e

  new_false : (get_or slots (base + class) 0 ≡ 0 → ⊥) → is_new slots base class ≡ false
  new_false n = go class n
    where
      go : (k : ℕ) → (get_or slots (base + k) 0 ≡ 0 → ⊥) → is_new slots base k ≡ false
      go zero n = refl
      go (suc k) n = ne_eqb _ _ n

  pub bytes_few : length (bytes_before doc names slots base class) ≤ 6 + length doc
  unfolding bytes_before class_text
  bytes_few = go (is_new slots base class)
    where
      go : (b : Bool) → length (cond b (0xF0 ∷ with_units (part doc (get_or names (2 * (class - 1)) 0) (2 * get_or names (2 * (class - 1) + 1) 0))) []) ≤ 6 + length doc
      go true = let h = counted_few doc (get_or names (2 * (class - 1)) 0) (2 * get_or names (2 * (class - 1) + 1) 0) in omega arith
      go false = omega arith

  -- nothing is due
  pub none_due : {b : List ℕ} {at : ℕ} → is_new slots base class ≡ false → Put b b at at (bytes_before doc names slots base class) × (slots ≡ slots_after slots base class)
  unfolding bytes_before slots_after
  none_due e = rw e (put_none, refl)

  pub none_empty : {b : List ℕ} {at : ℕ} → class ≡ 0 → Put b b at at (bytes_before doc names slots base class) × (slots ≡ slots_after slots base class)
  none_empty e = none_due (rw e)

  pub none_known : {b : List ℕ} {at : ℕ} → (get_or slots (base + class) 0 ≡ 0 → ⊥) → Put b b at at (bytes_before doc names slots base class) × (slots ≡ slots_after slots base class)
  none_known n = none_due (new_false n)

  module _ (n : class ≡ 0 → ⊥) (e : get_or slots (base + class) 0 ≡ 0) {place units : ℕ} (p : place ≡ get_or names (2 * (class - 1)) 0)
      (u : units ≡ get_or names (2 * (class - 1) + 1) 0) where
    bytes_due : bytes_before doc names slots base class ≡ 0xF0 ∷ with_units (part doc place (2 * units))
    unfolding bytes_before class_text
    bytes_due = rw (new_true n e, p, u)

    pub text_due : {b m x : List ℕ} {at r : ℕ} {s : List ℕ} → m ≡ set b at 0xF0 → Put m x (at + 1) r (with_units (part doc place (2 * units))) → s ≡ marked slots base class
        → Put b x at r (bytes_before doc names slots base class) × (s ≡ slots_after slots base class)
    unfolding slots_after
    text_due i j k = rw (bytes_due, new_true n e) (put_then (put_byte i) j, k)

    pub text_asks : {rows at : ℕ} (b m : List ℕ) → NamesInside doc names rows → class ≤ rows → at ≤ 1000000000000 → m ≡ set b at 0xF0
        → Fits (length b) at (length (bytes_before doc names slots base class))
        → (place + 2 * units ≤ length doc) × (length doc ≤ 65536) × (at + 1 ≤ 1099511627776) × Fits (length m) (at + 1) (length (with_units (part doc place (2 * units))))
    text_asks {rows} {at} b m t l a i f =
        let h = t.inside (class - 1) (positive n) in
        let g : Fits (length b) at (length (0xF0 ∷ with_units (part doc place (2 * units)))) = rw bytes_due at f in
        (rw (p, u) h, t.short, omega arith, fits_next {b = b} {m = m} {a = 0xF0 ∷ []} (with_units (part doc place (2 * units))) (put_byte {x = 0xF0} i) g)
      where
        positive : (class ≡ 0 → ⊥) → class - 1 < rows
        positive n = go class l n
          where
            go : (k : ℕ) → k ≤ rows → (k ≡ 0 → ⊥) → k - 1 < rows
            go zero h n = absurd (n refl)
            go (suc k) h n = omega arith

-- ---- the texts of a qname

module _ (doc names : List ℕ) (rows base : ℕ) (q : Parts) (t : NamesInside doc names rows) (fit : PartsFit rows q) (b : base + region ≤ slot_count) where
  -- what the definition of a class asks
  abbrev pub Asks : List ℕ → List ℕ → ℕ → ℕ → Type 0
  Asks slots out at class =
      NamesInside doc names rows × (class ≤ rows) × (base + region ≤ slot_count) × Low 20000 slots × (at ≤ 1000000000000) × Fits (length out) at (length (bytes_before doc names slots base class))

  module _ (slots out : List ℕ) (at : ℕ) where
    abbrev bytes1 : List ℕ
    bytes1 = bytes_before doc names slots base q.uri.0

    abbrev bytes2 : List ℕ
    bytes2 = bytes_before doc names (slots1 slots base q) base q.prefix.0

    abbrev bytes3 : List ℕ
    bytes3 = bytes_before doc names (slots2 slots base q) base q.local.0

    all_fit : Fits (length out) at (length (texts_before doc names slots base q)) → Fits (length out) at (length (bytes1 ++ (bytes2 ++ bytes3)))
    unfolding texts_before
    all_fit f = f

    pub uri_asks : Low 19000 slots → at ≤ 900000000000 → Fits (length out) at (length (texts_before doc names slots base q)) → Asks slots out at q.uri.0
    uri_asks low near f = (t, fit.uri_in, b, low_more (omega arith) low, omega arith, fits_first bytes1 (bytes2 ++ bytes3) (all_fit f))

    low1 : Low 19000 slots → Low 19001 (slots1 slots base q)
    unfolding slots1
    low1 low = let u = fit.uri_in in let n = t.few in slots_low 19000 slots base q.uri.0 (omega arith) low

    low2 : Low 19000 slots → Low 19002 (slots2 slots base q)
    unfolding slots2
    low2 low = let v = fit.prefix_in in let n = t.few in slots_low 19001 (slots1 slots base q) base q.prefix.0 (omega arith) (low1 low)

    pub prefix_asks : (s m : List ℕ) (x : ℕ) → Low 19000 slots → at ≤ 900000000000 → Fits (length out) at (length (texts_before doc names slots base q))
        → Put out m at x bytes1 → s ≡ slots_after slots base q.uri.0 → Asks s m x q.prefix.0
    unfolding slots1
    prefix_asks s m x low near f p e =
        let few = bytes_few doc names slots base q.uri.0 in
        let past = p.past in
        let short = t.short in
        let g = fits_next (bytes2 ++ bytes3) p (all_fit f) in
        rw e (t, fit.prefix_in, b, low_more (omega arith) (low1 low), omega arith, fits_first bytes2 bytes3 g)

    pub local_asks : (s s' m m' : List ℕ) (x y : ℕ) → Low 19000 slots → at ≤ 900000000000 → Fits (length out) at (length (texts_before doc names slots base q))
        → Put out m at x bytes1 → s ≡ slots_after slots base q.uri.0 → Put m m' x y (bytes_before doc names s base q.prefix.0) → s' ≡ slots_after s base q.prefix.0
        → Asks s' m' y q.local.0
    unfolding slots1 slots2
    local_asks s s' m m' x y low near f p e p' e' =
        let few = bytes_few doc names slots base q.uri.0 in
        let few' = bytes_few doc names s base q.prefix.0 in
        let past = p.past in
        let past' = p'.past in
        let short = t.short in
        let p'' : Put m m' x y bytes2 = rw e at p' in
        let g = fits_next bytes3 p'' (fits_next (bytes2 ++ bytes3) p (all_fit f)) in
        let i : s' ≡ slots2 slots base q = e' ∙ rw e in
        let near' : y ≤ 1000000000000 = omega arith in
        rw i (t, fit.local_in_fact, b, low_more (omega arith) (low2 low), near', g)

    pub texts_put : (s s' s'' m m' m'' : List ℕ) (x y z : ℕ) → Put out m at x bytes1 → s ≡ slots_after slots base q.uri.0
        → Put m m' x y (bytes_before doc names s base q.prefix.0) → s' ≡ slots_after s base q.prefix.0
        → Put m' m'' y z (bytes_before doc names s' base q.local.0) → s'' ≡ slots_after s' base q.local.0
        → Put out m'' at z (texts_before doc names slots base q) × (s'' ≡ slots3 slots base q)
    unfolding texts_before slots1 slots2 slots3
    texts_put s s' s'' m m' m'' x y z p e p' e' p'' e'' =
        let i : s' ≡ slots2 slots base q = e' ∙ rw e in
        let a : Put m m' x y bytes2 = rw e at p' in
        let c : Put m' m'' y z bytes3 = rw i at p'' in
        (put_then p (put_then a c), e'' ∙ rw i)

-- the texts are few bytes
pub texts_few : (doc names slots : List ℕ) (base : ℕ) (q : Parts) → length (texts_before doc names slots base q) ≤ 18 + qname_width * length doc
unfolding texts_before
texts_few doc names slots base q =
    let a = bytes_few doc names slots base q.uri.0 in
    let b = bytes_few doc names (slots1 slots base q) base q.prefix.0 in
    let c = bytes_few doc names (slots2 slots base q) base q.local.0 in
    rw (length-append, length-append) (omega arith)

pub numbers_few : (slots : List ℕ) (base : ℕ) (q : Parts) → length (qname_numbers slots base q) ≤ 16
unfolding qname_numbers
numbers_few slots base q =
    let a = shortest_few (number_in slots base q.uri.0) in
    let b = shortest_few (number_in slots base q.prefix.0) in
    let c = shortest_few (number_in slots base q.local.0) in
    rw (length-append, length-append) (omega arith)

-- ---- the definition of a qname

pub qname_put : (slots : List ℕ) (base : ℕ) (q : Parts) {b m m' m'' e : List ℕ} {at x y z k l n : ℕ} → m ≡ set b at 0xEF → k ≡ number_in slots base q.uri.0
    → Put m m' (at + 1) x (shortest k) → l ≡ number_in slots base q.prefix.0 → Put m' m'' x y (shortest l) → n ≡ number_in slots base q.local.0 → Put m'' e y z (shortest n)
    → Put b e at z (qname_numbers slots base q)
unfolding qname_numbers
qname_put slots base q i e₁ p e₂ p' e₃ p'' = rw (← e₁, ← e₂, ← e₃) (put_then (put_byte i) (put_then p (put_then p' p'')))

module _ (doc names slots qslots : List ℕ) (base : ℕ) (q : Parts) (class : ℕ) where
  pub qname_few : length (qname_before doc names slots qslots base q class) ≤ 34 + qname_width * length doc
  unfolding qname_before
  qname_few = go (is_new qslots base class)
    where
      go : (t : Bool) → length (cond t (texts_before doc names slots base q ++ qname_numbers (slots3 slots base q) base q) []) ≤ 34 + qname_width * length doc
      go true =
          let a = texts_few doc names slots base q in
          let b = numbers_few (slots3 slots base q) base q in
          rw length-append (omega arith)
      go false = omega arith

  pub qname_known : {b : List ℕ} {at : ℕ} → (get_or qslots (base + class) 0 ≡ 0 → ⊥)
      → Put b b at at (qname_before doc names slots qslots base q class) × (slots ≡ names_after slots qslots base q class) × (qslots ≡ slots_after qslots base class)
  unfolding qname_before names_after slots_after
  qname_known n = rw (new_false doc names qslots base class n) (put_none, refl, refl)

  module _ (n : 1 ≤ class) (e : get_or qslots (base + class) 0 ≡ 0) where
    is_new_fact : is_new qslots base class ≡ true
    is_new_fact = new_true doc names qslots base class (λ z. let q : ⊥ = omega arith in q) e

    qname_is : qname_before doc names slots qslots base q class ≡ texts_before doc names slots base q ++ qname_numbers (slots3 slots base q) base q
    unfolding qname_before
    qname_is = rw is_new_fact

    pub texts_fit : (out : List ℕ) (at : ℕ) → Fits (length out) at (length (qname_before doc names slots qslots base q class)) → Fits (length out) at (length (texts_before doc names slots base q))
    texts_fit out at f = fits_first (texts_before doc names slots base q) (qname_numbers (slots3 slots base q) base q) (rw qname_is at f)

    pub qname_new : {b m x : List ℕ} {at p r : ℕ} {s qs : List ℕ} → Put b m at p (texts_before doc names slots base q) → s ≡ slots3 slots base q → qs ≡ marked qslots base class
        → Put m x p r (qname_numbers s base q)
        → Put b x at r (qname_before doc names slots qslots base q class) × (s ≡ names_after slots qslots base q class) × (qs ≡ slots_after qslots base class)
    unfolding names_after slots_after
    qname_new {m = m} {x = x} {p = at'} {r = r} {s = s} p i j k =
        let k' = subst (λ (l : List ℕ). Put m x at' r (qname_numbers l base q)) i k in
        rw (qname_is, is_new_fact) (put_then p k', i, j)

-- ---- an event with a qname

module _ (doc names slots qslots : List ℕ) (base : ℕ) (q : Parts) (class : ℕ) where
  pub refer_put : {b m m' e : List ℕ} {at p r k : ℕ} {qs : List ℕ} (token : ℕ) → Put b m at p (qname_before doc names slots qslots base q class)
      → qs ≡ slots_after qslots base class → m' ≡ set m p token → k ≡ number_in qs base class → Put m' e (p + 1) r (shortest k)
      → Put b e at r (qname_before doc names slots qslots base q class ++ (token ∷ shortest (number_in (slots_after qslots base class) base class)))
  refer_put token p i j k l = rw (← i, ← k) (put_then p (put_then (put_byte j) l))

-- ---- numbers are small, and places near

pub number_asks : (slots : List ℕ) (base class : ℕ) {k at : ℕ} → Low 20000 slots → k ≡ number_in slots base class → at ≤ 1000000000100 → (k ≤ 2147483647) × (at ≤ 1099511627776)
number_asks slots base class low e near = let h = number_low 20000 slots base class low in (omega arith, omega arith)

pub number_past : (value : ℕ) {b m : List ℕ} {at r n : ℕ} → Put b m at r (shortest value) → at ≤ n → r ≤ n + 5
number_past value p h = let f = shortest_few value in let e = p.past in omega arith

-- before the definition of a qname, by the numbers of its texts
pub numbers_asks : (doc names slots : List ℕ) (rows base : ℕ) (q : Parts) {b m : List ℕ} {at p : ℕ} {s : List ℕ} → NamesInside doc names rows → PartsFit rows q → base + region ≤ slot_count
    → Low 19000 slots → at ≤ 900000000000 → Put b m at p (texts_before doc names slots base q) → s ≡ slots3 slots base q
    → PartsFit 1024 q × (base + region ≤ slot_count) × Low 20000 s × (p ≤ 1000000000000)
numbers_asks doc names slots rows base q t fit b low near p e =
    let few = texts_few doc names slots base q in
    let past = p.past in
    let short = t.short in
    let rows_few = t.few in
    (parts_more rows_few fit, b, rw e (low_more (omega arith) (slots3_low 19000 slots base q (parts_more (omega arith) fit) low)), omega arith)

-- after a qname was needed
pub refer_near : (doc names slots qslots : List ℕ) (base : ℕ) (q : Parts) (class : ℕ) {b m : List ℕ} {at p : ℕ} → length doc ≤ 65536 → at ≤ 900000000000
    → Put b m at p (qname_before doc names slots qslots base q class) → p ≤ 1000000000000
refer_near doc names slots qslots base q class short near p =
    let few = qname_few doc names slots qslots base q class in
    let past = p.past in
    omega arith

pub after_low : (qslots qs : List ℕ) (base class : ℕ) → class ≤ name_rows → Low 19000 qslots → qs ≡ slots_after qslots base class → Low 20000 qs
after_low qslots qs base class small low e = rw e (low_more (omega arith) (slots_low 19000 qslots base class (omega arith) low))

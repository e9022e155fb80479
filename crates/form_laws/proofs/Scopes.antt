-- The names and qnames of one open document, as its source and its form know them: the form has each text once, and no more
-- texts than the source has rows for them. Assumes nothing.
use Prim.Native.Nat.{ℕ, zero, suc, ◌+◌, ◌-◌, ◌≤◌, ◌<◌}
use mathlib.Core.Path.{◌≡◌, refl, sym, ◌∙◌, ap}
use mathlib.Core.Logic.{◌⊎◌, inl, inr}
use mathlib.Core.Option.{Option, none, some}
use mathlib.Core.List.{List, [], ◌∷◌, ◌++◌, map, append_assoc, append-nil}
use native.Mathlib.Omega.{arith}
use lib.ListN.{length, get_elem?, get_or, length-append, length-map}
use Rattle.sequences.specs.Lists.{In}
use Rattle.sequences.proofs.Members.{in_left}
use Rattle.machine.specs.Machine.{NameRow, QnameRow, Scope, elements_in, qnamed, name_text, qname_in, qname_event}
use Rattle.form.specs.Canonical.{Triple, triple, Defined}
use Rattle.form_laws.proofs.Lists.{clash, in_last, in_snoc, Distinct, alone, distinct_snoc, Has, has_more, not_more, map_snoc, map_at, some_at}

-- ---- rows that only grow

pub record Onto (A : List NameRow) (B : List QnameRow) (M : List NameRow) (P : List QnameRow) : Type 0 where
  pub more : List NameRow
  pub qmore : List QnameRow
  pub names_are : M ≡ A ++ more
  pub qnames_are : P ≡ B ++ qmore

pub onto_same : (A : List NameRow) (B : List QnameRow) → Onto A B A B
onto_same A B = record { more = []; qmore = []; names_are = sym (append-nil A); qnames_are = sym (append-nil B) }

pub onto_on : {A M N : List NameRow} {B P Q : List QnameRow} → Onto A B M P → Onto M P N Q → Onto A B N Q
onto_on x y =
    record {
      more = x.more ++ y.more;
      qmore = x.qmore ++ y.qmore;
      names_are = y.names_are ∙ rw (x.names_are, append_assoc);
      qnames_are = y.qnames_are ∙ rw (x.qnames_are, append_assoc);
    }

pub onto_name : (A : List NameRow) (B : List QnameRow) (r : NameRow) → Onto A B (A ++ (r ∷ [])) B
onto_name A B r = record { more = r ∷ []; qmore = []; names_are = refl; qnames_are = sym (append-nil B) }

pub onto_qname : (A : List NameRow) (B : List QnameRow) (r : QnameRow) → Onto A B A (B ++ (r ∷ []))
onto_qname A B r = record { more = []; qmore = r ∷ []; names_are = sym (append-nil A); qnames_are = refl }

pub onto_longer : {A M : List NameRow} {B P : List QnameRow} → Onto A B M P → (length A ≤ length M) × (length B ≤ length P)
onto_longer x = (rw (x.names_are, length-append) (omega arith), rw (x.qnames_are, length-append) (omega arith))

-- ---- the texts of rows

abbrev pub name_is : List ℕ → List NameRow → ℕ → Option (List ℕ)
name_is d N r = some (name_text d N r)

abbrev triple_in : List ℕ → List NameRow → Option QnameRow → Option Triple
triple_in d N none = none
triple_in d N (some q) = some (triple (name_text d N q.uri) (name_text d N q.prefix) (name_text d N q.local))

unfoldable pub row_triple : List ℕ → List NameRow → List QnameRow → ℕ → Option Triple
row_triple d N Q zero = none
row_triple d N Q (suc k) = triple_in d N (get_elem? Q k)

-- an event that refers to a row of qnames says that row's texts
pub qname_says : (d : List ℕ) (N : List NameRow) (Q : List QnameRow) (token row : ℕ) {q : Triple} → row_triple d N Q row ≡ some q
    → qname_event d N Q token row ≡ qnamed token q.uri q.prefix q.local
unfolding row_triple
qname_says d N Q token zero e = clash (cc)
qname_says d N Q token (suc k) {q} e = go (get_elem? Q k) e
  where
    go : (o : Option QnameRow) → triple_in d N o ≡ some q → qname_in d N token o ≡ qnamed token q.uri q.prefix q.local
    go none e = clash (cc)
    go (some r) e =
        let i : triple (name_text d N r.uri) (name_text d N r.prefix) (name_text d N r.local) ≡ q = cc in
        ap (λ (x : Triple). qnamed token x.uri x.prefix x.local) i

-- ---- one list of names or qnames, with the values that the source's rows (f) and the form's rows (g) say

module _ {Value : Type 0} (f : ℕ → Option Value) (g : List NameRow → List QnameRow → ℕ → Option Value) where
  -- the source knows `known` of all its rows `mine`, flushed ones too; the form has defined the values `c`; whatever rows
  -- follow those of the form so far, its rows say these values
  pub record Half (A : List NameRow) (B : List QnameRow) (size : ℕ) (known known' : List ℕ) (c : List Value) (mine : List ℕ) : Type 0 where
    pub held : (r : ℕ) → In r known → In r mine
    pub used : (v : Value) → In v c → Has f mine v
    pub once : Distinct c
    pub short : length c ≤ size
    pub values : (M : List NameRow) (P : List QnameRow) → Onto A B M P → map (g M P) known' ≡ map some c

  pub half_none : (A : List NameRow) (B : List QnameRow) (size : ℕ) → Half A B size [] [] [] []
  half_none A B size =
      record { held = λ r m. m; used = λ v (m : In v []). elim m [ ]; once = alone; short = omega arith; values = λ M P y. refl }

  module _ {A : List NameRow} {B : List QnameRow} {size : ℕ} {known known' : List ℕ} {c : List Value} {mine : List ℕ} where
    pub half_grows : {M : List NameRow} {P : List QnameRow} {more : ℕ} → Onto A B M P → size ≤ more → Half A B size known known' c mine → Half M P more known known' c mine
    half_grows x l h =
        record { held = h.held; used = h.used; once = h.once; short = omega (arith, h.short); values = λ M P y. h.values M P (onto_on x y) }

    -- the form has no more values than the source has rows
    pub half_few : Half A B size known known' c mine → length c ≤ length mine
    half_few h = not_more f c mine h.once h.used

    pub half_known : Half A B size known known' c mine → length known' ≡ length c
    half_known h =
        sym (length-map known' (g A B)) ∙ ap length (h.values A B (onto_same A B)) ∙ length-map c some

    -- the row of a value in the form
    pub half_at : Half A B size known known' c mine → (k : ℕ) {v : Value} → get_elem? c k ≡ some v
        → (k < length known') × ((M : List NameRow) (P : List QnameRow) → Onto A B M P → g M P (get_or known' k 0) ≡ some v)
    half_at h k {v} e = (
      (map_at (g A B) known' k (some v) (rw (h.values A B (onto_same A B)) (some_at c k e))).0,
      λ M P y. (map_at (g M P) known' k (some v) (rw (h.values M P y) (some_at c k e))).1,
    )

    -- the source has a row more; it forgets its rows
    pub half_source : (a : ℕ) → Half A B size known known' c mine → Half A B size (known ++ (a ∷ [])) known' c (mine ++ (a ∷ []))
    half_source a h =
        record {
          held = λ r m. or r (in_snoc r known a m);
          used = λ v m. has_more f (a ∷ []) (h.used v m);
          once = h.once;
          short = h.short;
          values = h.values;
        }
      where
        or : (r : ℕ) → In r known ⊎ (r ≡ a) → In r (mine ++ (a ∷ []))
        or r (inl m) = in_left (a ∷ []) (h.held r m)
        or r (inr e) = rw e (in_last a mine)

    pub half_flush : Half A B size known known' c mine → Half A B size [] known' c mine
    half_flush h = record { held = λ r (m : In r []). elim m [ ]; used = h.used; once = h.once; short = h.short; values = h.values }

    -- the form defines a value more, in a row of its own
    pub half_form : {M : List NameRow} {P : List QnameRow} {more : ℕ} (v : Value) (row : ℕ) → Onto A B M P → size + 1 ≤ more → (In v c → ⊥) → Has f mine v
        → ((M' : List NameRow) (P' : List QnameRow) → Onto M P M' P' → g M' P' row ≡ some v)
        → Half A B size known known' c mine → Half M P more known (known' ++ (row ∷ [])) (c ++ (v ∷ [])) mine
    half_form {more = more} v row x l n i new h =
        record {
          held = h.held;
          used = λ y m. or y (in_snoc y c v m);
          once = distinct_snoc c v h.once n;
          short = rw length-append (omega (arith, h.short));
          values = λ M P y. rw (map_snoc (g M P) known' row, map_snoc some c v, h.values M P (onto_on x y), new M P y);
        }
      where
        or : (y : Value) → In y c ⊎ (y ≡ v) → Has f mine y
        or y (inl m) = h.used y m
        or y (inr e) = rw e i

-- ---- one open document, and those around it

module _ (d : List ℕ) (N : List NameRow) (Q : List QnameRow) (d' : List ℕ) where
  -- a text that the source has a row for
  pub data Among (mine : List ℕ) : List ℕ → Type 0 where
    empty : Among mine []
    text : {t : List ℕ} → Has (name_is d N) mine t → Among mine t

  -- the texts of a row of qnames
  pub record Parts (mine : List ℕ) (row : ℕ) : Type 0 where
    pub says : Triple
    pub is : row_triple d N Q row ≡ some says
    pub uri_in : Among mine says.uri
    pub prefix_in : Among mine says.prefix
    pub local_in_fact : Among mine says.local

  among_more : {mine t : List ℕ} (more : List ℕ) → Among mine t → Among (mine ++ more) t
  among_more more empty = empty
  among_more more (text h) = text (has_more (name_is d N) more h)

  parts_more : {mine : List ℕ} {row : ℕ} (more : List ℕ) → Parts mine row → Parts (mine ++ more) row
  parts_more more p =
      record { says = p.says; is = p.is; uri_in = among_more more p.uri_in; prefix_in = among_more more p.prefix_in; local_in_fact = among_more more p.local_in_fact }

  pub record One (A : List NameRow) (B : List QnameRow) (o o' : Scope) (c : Defined) (mine qmine : List ℕ) : Type 0 where
    pub version : o'.version ≡ o.version
    pub elements : o'.elements ≡ o.elements
    pub names : Half (name_is d N) (λ M P. name_is d' M) A B (length A) o.names o'.names c.names mine
    pub qnames : Half (row_triple d N Q) (row_triple d') A B (length B) o.qnames o'.qnames c.qnames qmine
    pub parts : (r : ℕ) → In r qmine → Parts mine r

  pub one_grows : {A M : List NameRow} {B P : List QnameRow} {o o' : Scope} {c : Defined} {mine qmine : List ℕ} → Onto A B M P → One A B o o' c mine qmine → One M P o o' c mine qmine
  one_grows x h =
      let l = onto_longer x in
      record {
        version = h.version;
        elements = h.elements;
        names = half_grows (name_is d N) (λ M P. name_is d' M) x l.0 h.names;
        qnames = half_grows (row_triple d N Q) (row_triple d') x l.1 h.qnames;
        parts = h.parts;
      }

  -- the documents around, and how many rows of names and of qnames the form has to spare for them
  pub data Around (A : List NameRow) (B : List QnameRow) : List Scope → List Scope → List Defined → ℕ → ℕ → Type 0 where
    outermost : Around A B [] [] [] 0 0
    document : {o o' : Scope} {os os' : List Scope} {c : Defined} {cs : List Defined} {m n : ℕ} {mine qmine : List ℕ}
        → One A B o o' c mine qmine → Around A B os os' cs m n
        → Around A B (o ∷ os) (o' ∷ os') (c ∷ cs) (m + (length mine - length c.names)) (n + (length qmine - length c.qnames))

  pub around_grows : {A M : List NameRow} {B P : List QnameRow} {os os' : List Scope} {cs : List Defined} {m n : ℕ} → Onto A B M P → Around A B os os' cs m n → Around M P os os' cs m n
  around_grows x outermost = outermost
  around_grows x (document h a) = document (one_grows x h) (around_grows x a)

  pub around_elements : {A : List NameRow} {B : List QnameRow} {os os' : List Scope} {cs : List Defined} {m n : ℕ} → Around A B os os' cs m n → elements_in os' ≡ elements_in os
  around_elements outermost = refl
  around_elements (document h a) = rw (around_elements a, h.elements)

  pub around_depth : {A : List NameRow} {B : List QnameRow} {os os' : List Scope} {cs : List Defined} {m n : ℕ} → Around A B os os' cs m n → length os' ≡ length os
  around_depth outermost = refl
  around_depth (document h a) = ap suc (around_depth a)

  -- the innermost of them, taken out
  pub record Inner (A : List NameRow) (B : List QnameRow) (o : Scope) (os os' : List Scope) (cs : List Defined) (m n : ℕ) : Type 0 where
    pub first : Scope
    pub rest : List Scope
    pub mine : List ℕ
    pub qmine : List ℕ
    pub c : Defined
    pub cs_rest : List Defined
    pub owed : ℕ
    pub qowed : ℕ
    pub scopes_are : os' ≡ first ∷ rest
    pub defined_are : cs ≡ c ∷ cs_rest
    pub owed_is : m ≡ owed + (length mine - length c.names)
    pub qowed_is : n ≡ qowed + (length qmine - length c.qnames)
    pub one : One A B o first c mine qmine
    pub around : Around A B os rest cs_rest owed qowed

  pub inner : {A : List NameRow} {B : List QnameRow} {o : Scope} {os os' : List Scope} {cs : List Defined} {m n : ℕ} → Around A B (o ∷ os) os' cs m n → Inner A B o os os' cs m n
  inner (document h a) =
      record {
        first = _;
        rest = _;
        mine = _;
        qmine = _;
        c = _;
        cs_rest = _;
        owed = _;
        qowed = _;
        scopes_are = refl;
        defined_are = refl;
        owed_is = refl;
        qowed_is = refl;
        one = h;
        around = a;
      }

  -- the source defines a name more; the names' texts serve its qnames as before
  pub one_name : {A : List NameRow} {B : List QnameRow} {o o' : Scope} {c : Defined} {mine qmine : List ℕ} (a : ℕ) → One A B o o' c mine qmine
      → One A B (record { version = o.version; names = o.names ++ (a ∷ []); qnames = o.qnames; elements = o.elements }) o' c (mine ++ (a ∷ [])) qmine
  one_name a h =
      record {
        version = h.version;
        elements = h.elements;
        names = half_source (name_is d N) (λ M P. name_is d' M) a h.names;
        qnames = h.qnames;
        parts = λ r m. parts_more (a ∷ []) (h.parts r m);
      }

  -- a qname more, whose row has its parts; and a flush
  pub one_qname : {A : List NameRow} {B : List QnameRow} {o o' : Scope} {c : Defined} {mine qmine : List ℕ} (a : ℕ) → Parts mine a → One A B o o' c mine qmine
      → One A B (record { version = o.version; names = o.names; qnames = o.qnames ++ (a ∷ []); elements = o.elements }) o' c mine (qmine ++ (a ∷ []))
  one_qname {mine = mine} {qmine = qmine} a p h =
      record {
        version = h.version;
        elements = h.elements;
        names = h.names;
        qnames = half_source (row_triple d N Q) (row_triple d') a h.qnames;
        parts = λ r m. or r (in_snoc r qmine a m);
      }
    where
      or : (r : ℕ) → In r qmine ⊎ (r ≡ a) → Parts mine r
      or r (inl m) = h.parts r m
      or r (inr e) = rw e p

  pub one_flush : {A : List NameRow} {B : List QnameRow} {o o' : Scope} {c : Defined} {mine qmine : List ℕ} → One A B o o' c mine qmine
      → One A B (record { version = o.version; names = []; qnames = []; elements = o.elements }) o' c mine qmine
  one_flush h =
      record {
        version = h.version;
        elements = h.elements;
        names = half_flush (name_is d N) (λ M P. name_is d' M) h.names;
        qnames = half_flush (row_triple d N Q) (row_triple d') h.qnames;
        parts = h.parts;
      }

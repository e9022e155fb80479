-- The rows of any reading, accepted or refused, say what stands in the document, and its events stand in order. Assumes nothing.
use Prim.Native.Nat.{ℕ, zero, suc, ◌+◌, ◌-◌, ◌*◌, ◌≤◌, ◌<◌}
use mathlib.Core.Path.{◌≡◌, refl, subst}
use mathlib.Core.Logic.{◌⊎◌, inl, inr}
use mathlib.Core.Bool.{Bool, true, false, ◌||◌}
use mathlib.Core.List.{List, [], ◌∷◌, ◌++◌}
use native.Mathlib.Omega.{arith}
use lib.Dec.{eqb}
use lib.ListN.{length, get_or, length-append}
use borrow.Author.Tests.{eqb-true}
use Rattle.sequences.specs.Arrays.{Every, none, first}
use Rattle.sequences.proofs.Members.{every_append, every_weaken, every_get_d}
use Rattle.std.specs.Prelude.{Result, Ok}
use Rattle.token.specs.declared.Refusal.{Refusal}
use Rattle.token.specs.Tokens.{class_of, shape_of}
use Rattle.token.specs.declared.Class.{Class}
use Rattle.token.specs.declared.Class.TheVariants as class
use Rattle.token.specs.declared.QnameNumber.{QnameNumber}
use Rattle.value.specs.Fields.{field_at}
use Rattle.value.specs.declared.Field.TheVariants as field
use Rattle.fields.specs.Bounds.{NameWithin, HeaderWithin}
use Rattle.fields.specs.declared.Name.{Name}
use Rattle.fields.proofs.References.{name_within}
use Rattle.fields.specs.declared.Header.{Header}
use Rattle.fields.proofs.Headers.{header_within}
use Rattle.scan.specs.Bounds.{Fine}
use Rattle.modes.specs.declared.Mode.{Mode}
use Rattle.scan.specs.declared.Room.{Room}
use Rattle.scan.specs.declared.Step.{Step}
use Rattle.scan.proofs.Fine.{found_fine}
use Rattle.machine.specs.Machine.{QnameRow, EventRow, name_row, event, Scope, scope, State, state, view, row_of, onward, returned, apply, started, reading}
use Rattle.machine.specs.Facts as facts
use Rattle.machine.specs.Facts.{one_of, text_tokens, qname_tokens, QnameFits, EventFits, Placed, RowsFit}
use Rattle.machine.proofs.Goes.{Goes}
use Rattle.machine.proofs.Trace.{kept}
use Rattle.machine.proofs.Codes.{coded, reference_shape}
use Rattle.machine.proofs.Readings.{by_reading}
use Rattle.machine.proofs.Found as found
use Rattle.machine.proofs.Found.{TextLeads, ValueClass, Found, found_step}

-- what holds for each number of a list holds for one of them
pub every_one_of : (ks : List ℕ) (P : ℕ → Type 0) (x : ℕ) → Every P ks → one_of ks x ≡ true → P x
every_one_of [] P x h e = absurd (let z : ◌≡◌ {A = ℕ} 0 1 = cc in let q : ⊥ = omega arith in q)
every_one_of (k ∷ ks) P x (first p h) e = go (eqb x k) refl e (λ i. every_one_of ks P x h i)
  where
    go : (b : Bool) → eqb x k ≡ b → (b || one_of ks x) ≡ true → (one_of ks x ≡ true → P x) → P x
    go true i e f = rw (eqb-true x k i) p
    go false i e f = f e

-- ---- what is known of the rows stays true of more rows

pub qname_grows : {m n : ℕ} {r : QnameRow} → m ≤ n → QnameFits m r → QnameFits n r
qname_grows l h = record { uri_in = omega arith; prefix_in = omega arith; local_in_fact = omega arith }

pub event_grows : {doc : List ℕ} {m n p q : ℕ} {e : EventRow} {next : ℕ} → m ≤ n → p ≤ q → EventFits doc m p e next → EventFits doc n q e next
event_grows k l (facts.standalone v) = facts.standalone v
event_grows k l (facts.texted t e) = facts.texted t e
event_grows {n = n} k l (facts.pi {row = row} r s e) = facts.pi (let h : row ≤ n = omega arith in h) s e
event_grows {q = q} k l (facts.reference {row = row} t a b c d) = facts.reference t a (let h : row ≤ q = omega arith in h) c d
event_grows k l (facts.nested a b) = facts.nested a b
event_grows k l (facts.bare t) = facts.bare t
event_grows k l (facts.value c e) = facts.value c e

pub placed_grows : {doc : List ℕ} {m n p q : ℕ} {es : List EventRow} {at at' : ℕ} → m ≤ n → p ≤ q → at ≤ at' → Placed doc m p es at → Placed doc n q es at'
placed_grows k l i facts.none = facts.none
placed_grows {at' = at'} k l i (facts.then {p = b} {next = next} h o f e) =
    facts.then (placed_grows k l (let r : b ≤ b = omega arith in r) h) o (event_grows k l f) (let r : next ≤ at' = omega arith in r)

-- ---- the rows that a document knows

-- a row, numbered from 1
abbrev pub IsRow : ℕ → ℕ → Type 0
IsRow n r = (1 ≤ r) × (r ≤ n)

-- the rows known in an open document are rows
pub record Known (names qnames : ℕ) (o : Scope) : Type 0 where
  pub names_are : Every (IsRow names) o.names
  pub qnames_are : Every (IsRow qnames) o.qnames

pub rows_grow : {m n : ℕ} {l : List ℕ} → m ≤ n → Every (IsRow m) l → Every (IsRow n) l
rows_grow k h = every_weaken (λ a r. (r.0, omega arith)) h

pub known_grows : {m n p q : ℕ} {o : Scope} → m ≤ n → p ≤ q → Known m p o → Known n q o
known_grows k l h = record { names_are = rows_grow k h.names_are; qnames_are = rows_grow l h.qnames_are }

-- the row of a number that is known is a row, or 0 for number 0
pub row_in : {n : ℕ} {rows : List ℕ} → Every (IsRow n) rows → (number : ℕ) → number ≤ length rows → row_of rows number ≤ n
row_in h zero l = omega arith
row_in h (suc k) l = (every_get_d h k (omega arith)).1

pub row_from : {n : ℕ} {rows : List ℕ} → Every (IsRow n) rows → (number : ℕ) → 1 ≤ number → number ≤ length rows → 1 ≤ row_of rows number
row_from h zero k l = absurd (let q : ⊥ = omega arith in q)
row_from h (suc k) i l = (every_get_d h k (omega arith)).0

-- what every step keeps
pub record Sound (doc : List ℕ) (s : State) : Type 0 where
  pub rows : RowsFit doc s
  pub here : Known (length s.names) (length s.qnames) s.here
  pub outer : Every (Known (length s.names) (length s.qnames)) s.outer

-- ---- tokens by class

text_token : {c : Class} {m n : Mode} (t : ℕ) → TextLeads m c n → class_of t ≡ c → one_of text_tokens t ≡ true
text_token t found.xml_decl e = let k : t ≡ 0xFE = eqb-true _ _ (coded t e) in rw k
text_token t found.doc_type e = let k : t ≡ 0xFC = eqb-true _ _ (coded t e) in rw k
text_token t found.system e = let k : t ≡ 0xFB = eqb-true _ _ (coded t e) in rw k
text_token t found.public e = let k : t ≡ 0xFA = eqb-true _ _ (coded t e) in rw k
text_token t found.subset e = let k : t ≡ 0xF9 = eqb-true _ _ (coded t e) in rw k
text_token t found.comment e = let k : t ≡ 0xF3 = eqb-true _ _ (coded t e) in rw k
text_token t found.cdata e = let k : t ≡ 0xF2 = eqb-true _ _ (coded t e) in rw k

value_class_lem : {c : Class} (t : ℕ) → ValueClass c → class_of t ≡ c → (class_of t ≡ class.Value) ⊎ (class_of t ≡ class.LaterValue)
value_class_lem t found.any_version e = inl e
value_class_lem t found.version_2 e = inr e

-- the one value that refers to a qname
pub qname_code : {c : Class} (t : ℕ) (doc : List ℕ) (at : ℕ) {n : QnameNumber} {next : ℕ} → ValueClass c → class_of t ≡ c
    → field_at (shape_of t) doc at ≡ Ok (field.Reference n next) → t ≡ 0x8C
qname_code t doc at found.any_version e f =
    let s = reference_shape (shape_of t) doc at f in let h = coded t e in eqb-true _ _ (rw s at h)
qname_code t doc at found.version_2 e f =
    let s = reference_shape (shape_of t) doc at f in let h = coded t e in eqb-true _ _ (rw s at h)

-- ---- one step

one_more : {A : Type 0} (l : List A) (a : A) → length (l ++ (a ∷ [])) ≡ length l + 1
one_more l a = simp length-append

module _ (doc : List ℕ) (s : State) (i : Sound doc s) where
  -- a step that adds an event
  sound_event : (e : EventRow) (mode : Mode) (here : Scope) (end next : ℕ) → s.at ≤ e.place → EventFits doc (length s.names) (length s.qnames) e end
      → end ≤ next → Known (length s.names) (length s.qnames) here → Sound doc (onward s e mode here next)
  sound_event e mode here end next p f n k =
      record {
        rows = record { names = i.rows.names; qnames = i.rows.qnames; events = facts.then i.rows.events p f n };
        here = k;
        outer = i.outer;
      }

  -- a step that adds no row
  sound_quiet : (mode : Mode) (here : Scope) (next : ℕ) → s.at ≤ next → Known (length s.names) (length s.qnames) here
      → Sound doc (state next mode here s.outer s.names s.qnames s.events)
  sound_quiet mode here next l k =
      let a : length s.names ≤ length s.names = omega arith in
      let b : length s.qnames ≤ length s.qnames = omega arith in
      record {
        rows = record { names = i.rows.names; qnames = i.rows.qnames; events = placed_grows a b l i.rows.events };
        here = k;
        outer = i.outer;
      }

  -- a name more
  sound_name : (mode : Mode) (place units next : ℕ) → s.at ≤ next → place + 2 * units ≤ length doc
      → Sound doc (state next mode (scope s.here.version (s.here.names ++ ((length s.names + 1) ∷ [])) s.here.qnames s.here.elements)
      s.outer (s.names ++ (name_row place units ∷ [])) s.qnames s.events)
  sound_name mode place units next l inside =
      let o = one_more s.names (name_row place units) in
      let a : length s.names ≤ length (s.names ++ (name_row place units ∷ [])) = omega arith in
      let b : length s.qnames ≤ length s.qnames = omega arith in
      let r : IsRow (length (s.names ++ (name_row place units ∷ []))) (length s.names + 1) = (omega arith, omega arith) in
      record {
        rows =
            record {
              names = every_append i.rows.names (first (record { inside = inside }) none);
              qnames = every_weaken (λ q h. qname_grows a h) i.rows.qnames;
              events = placed_grows a b l i.rows.events;
            };
        here =
            record {
              names_are = every_append (rows_grow a i.here.names_are) (first r none);
              qnames_are = i.here.qnames_are;
            };
        outer = every_weaken (λ q h. known_grows a b h) i.outer;
      }

  -- a qname more
  sound_qname : (mode : Mode) (q : QnameRow) (next : ℕ) → s.at ≤ next → QnameFits (length s.names) q
      → Sound doc (state next mode (scope s.here.version s.here.names (s.here.qnames ++ ((length s.qnames + 1) ∷ [])) s.here.elements)
      s.outer s.names (s.qnames ++ (q ∷ [])) s.events)
  sound_qname mode q next l fits =
      let o = one_more s.qnames q in
      let a : length s.names ≤ length s.names = omega arith in
      let b : length s.qnames ≤ length (s.qnames ++ (q ∷ [])) = omega arith in
      let r : IsRow (length (s.qnames ++ (q ∷ []))) (length s.qnames + 1) = (omega arith, omega arith) in
      record {
        rows =
            record {
              names = i.rows.names;
              qnames = every_append i.rows.qnames (first fits none);
              events = placed_grows a b l i.rows.events;
            };
        here =
            record {
              names_are = i.here.names_are;
              qnames_are = every_append (rows_grow b i.here.qnames_are) (first r none);
            };
        outer = every_weaken (λ q h. known_grows a b h) i.outer;
      }

  -- a nested document ends
  sound_leave : (os : List Scope) (next : ℕ) → Every (Known (length s.names) (length s.qnames)) os → s.at + 1 ≤ next → 0 < length os
      → Sound doc (returned s os next)
  sound_leave [] next h l d = absurd (let q : ⊥ = omega arith in q)
  sound_leave (o ∷ os) next (first k h) l d =
      let p : s.at ≤ s.at = omega arith in
      record {
        rows = record { names = i.rows.names; qnames = i.rows.qnames; events = facts.then i.rows.events p (facts.bare refl) l };
        here = k;
        outer = h;
      }

  known_here : (elements : ℕ) → Known (length s.names) (length s.qnames) (scope s.here.version s.here.names s.here.qnames elements)
  known_here elements = record { names_are = i.here.names_are; qnames_are = i.here.qnames_are }

  -- an event that refers to a qname
  sound_refer : (token : ℕ) (number : QnameNumber) (mode : Mode) (elements next : ℕ) → one_of qname_tokens token ≡ true → s.at < next → next ≤ length doc
      → 1 ≤ number.0 → number.0 ≤ length s.here.qnames
      → Sound doc (onward s (event token s.at (row_of s.here.qnames number.0) 0) mode (scope s.here.version s.here.names s.here.qnames elements) next)
  sound_refer token number mode elements next t l n a b =
      sound_event _ mode _ next next (omega arith)
      (facts.reference t (row_from i.here.qnames_are number.0 a b) (row_in i.here.qnames_are number.0 b) l n)
      (omega arith) (known_here elements)

module _ (doc : List ℕ) (room : Room) (s : State) (i : Sound doc s) where
  pub sound_step : {x : Step} → Goes x → Fine (length doc) (view s) room x → Found doc (view s) room (Ok x) → Sound doc (apply s x)
  sound_step g f (found.ended l d e c) = absurd g
  sound_step g f (found.name_def {place = place} {units = units} t e r) = sound_name doc s i _ place units _ (omega arith) f.2
  sound_step g f (found.qname_def {uri = uri} {prefix = prefix} {local = local} t a b c r) =
      let h = i.here.names_are in
      sound_qname doc s i _ _ _ (omega arith)
      (record { uri_in = row_in h uri.0 f.2; prefix_in = row_in h prefix.0 f.3; local_in_fact = row_in h local.0 f.4 })
  sound_step g f (found.skip t e l) = sound_quiet doc s i _ s.here _ (omega arith) i.here
  sound_step g f (found.flush t) = sound_quiet doc s i _ _ _ (omega arith) (record { names_are = none; qnames_are = none })
  sound_step g f (found.texted {place = place} {units = units} t l e r) =
      sound_event doc s i _ _ s.here (place + 2 * units) _ (omega arith) (facts.texted (text_token _ l t.class_is) e) (omega arith) i.here
  sound_step g f (found.encoding {place = place} {units = units} a m b e r) =
      sound_event doc s i _ _ s.here (place + 2 * units) _ (omega arith) (facts.texted (rw b) e) (omega arith) i.here
  sound_step g f (found.standalone a d b r) = sound_event doc s i _ _ s.here (s.at + 1) _ (omega arith) (facts.standalone b) (omega arith) i.here
  sound_step g f (found.end_attributes t r) =
      let k : get_or doc s.at 0 ≡ 0xF5 = eqb-true _ _ (coded _ t.class_is) in
      sound_event doc s i _ _ s.here (s.at + 1) _ (omega arith) (facts.bare (rw k)) (omega arith) i.here
  sound_step g f (found.cdata_end t r) =
      let k : get_or doc s.at 0 ≡ 0xF1 = eqb-true _ _ (coded _ t.class_is) in
      sound_event doc s i _ _ s.here (s.at + 1) _ (omega arith) (facts.bare (rw k)) (omega arith) i.here
  sound_step g f (found.value {place = place} {size = size} t c e r) =
      sound_event doc s i _ _ s.here (place + size) _ (omega arith) (facts.value (value_class_lem _ c t.class_is) e) (omega arith) i.here
  sound_step g f (found.qname_value {number = number} t c e a b r) =
      let k : get_or doc s.at 0 ≡ 0x8C = qname_code _ doc s.at c t.class_is e in
      sound_refer doc s i _ number _ s.here.elements _ (rw k) f.0 f.1 a b
  sound_step g f (found.attribute {number = number} t e r) = sound_refer doc s i 0xF6 number _ s.here.elements _ refl f.0 f.1 f.2 f.3
  sound_step g f (found.element {number = number} t o e r) = sound_refer doc s i 0xF8 number _ (s.here.elements + 1) _ refl f.0 f.1 f.2 f.3
  sound_step g f (found.close t r) =
      sound_event doc s i _ _ _ (s.at + 1) _ (omega arith) (facts.bare refl) (omega arith) (known_here doc s i (s.here.elements - 1))
  sound_step g f (found.pi {target = target} {start = start} {place = place} {units = units} t n e r) =
      let w = subst (λ (x : Result Name Refusal). NameWithin (length doc) (s.at + 1) (length s.here.names) x) n (name_within (length s.here.names) doc (s.at + 1)) in
      sound_event doc s i _ _ s.here (place + 2 * units) _ (omega arith)
      (facts.pi (row_in i.here.names_are target.0 f.2) (let l : s.at < start = omega arith in l) e) (omega arith) i.here
  sound_step g f (found.nest {version = version} {next = next} t d e r) =
      let w = subst (λ (x : Result Header Refusal). HeaderWithin (length doc) (s.at + 1) x) e (header_within doc (s.at + 1)) in
      let l : s.at + 6 ≤ next = omega arith in
      let p : s.at ≤ s.at = omega arith in
      record {
        rows = record { names = i.rows.names; qnames = i.rows.qnames; events = facts.then i.rows.events p (facts.nested f.2 f.3) l };
        here = record { names_are = none; qnames_are = none };
        outer = first i.here i.outer;
      }
  sound_step g f (found.leave t r) = sound_leave doc s i s.outer _ i.outer (omega arith) f.2

-- ---- a reading

-- no row, nothing known
pub sound_none : (doc : List ℕ) (version at : ℕ) → Sound doc (started version at)
sound_none doc version at =
    record {
      rows = record { names = none; qnames = none; events = facts.none };
      here = record { names_are = none; qnames_are = none };
      outer = none;
    }

-- the rows known in open documents are rows, too
pub sound_reading : (doc : List ℕ) (room : Room) → Sound doc (reading doc room).final
sound_reading doc room =
    by_reading doc room (λ r. Sound doc r.final) (λ number place l. sound_none doc 0 0)
    (λ version next w. kept doc room (Sound doc) (λ s x i g q. sound_step doc room s i g (found_fine doc (view s) room q) (found_step doc (view s) room q))
    w.trace (sound_none doc version next))

-- each row of a reading, accepted or refused, is one of 01, "Rows", and the events stand in the order of the document
pub rows_fit : (doc : List ℕ) (room : Room) → RowsFit doc (reading doc room).final
rows_fit doc room = (sound_reading doc room).rows

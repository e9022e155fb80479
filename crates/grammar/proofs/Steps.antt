-- A token that the grammar derives is a step of reading, wherever it may stand and where the rows have room. Assumes nothing.
use Prim.Native.Nat.{ℕ, ◌+◌, ◌-◌, ◌*◌, ◌≤◌, ◌<◌}
use mathlib.Core.Path.{◌≡◌, refl, ◌∙◌}
use mathlib.Core.Bool.{Bool, true, false, ◌||◌}
use mathlib.Core.List.{List, [], ◌∷◌, ◌++◌}
use native.Mathlib.Omega.{arith}
use lib.Dec.{eqb}
use lib.ListN.{length, length-append}
use borrow.Author.Tests.{lt-ltb, le-leb, eqb-true}
use Rattle.std.specs.Prelude.{Ok}
use Rattle.token.specs.Tokens.{class_of}
use Rattle.token.specs.declared.Class.{Class}
use Rattle.token.specs.declared.Class.TheVariants as class
use Rattle.value.specs.Fields.{text, text_at, extent_at, field_at}
use Rattle.modes.specs.Modes.{content, in_attributes, in_declaration, is, allowed, after_metadata, after_misc, after_value}
use Rattle.scan.specs.Steps.{event_due, text_step, name_step, qname_step, extension_step, pi_step, element_step, attribute_step, value_step, nest_step, class_step, token_step, declared_step, step_at}
use Rattle.modes.specs.declared.Mode.{Mode}
use Rattle.modes.specs.declared.Mode.TheVariants as mode
use Rattle.modes.specs.declared.View.{View}
use Rattle.scan.specs.declared.Room.{Room}
use Rattle.scan.specs.declared.Step.{Step}
use Rattle.scan.specs.declared.Step.TheVariants as step
use Rattle.machine.specs.Machine.{event, Scope, scope, State, state, names_in, qnames_in, apply}
use Rattle.machine.specs.Machine as machine
use Rattle.machine.proofs.Goes.{Goes}
use Rattle.grammar.specs.Grammar.{Point, past_qname, past_end, past_header, past_nest, past_end_nest, Byte, TextToken, texttoken, QnameReference, HeaderBytes, Standalone, standalone, Metadata, a_namedef, namedef, a_qnamedef, qnamedef, an_extension, extension, flush_defined_name_tokens, Pi, pi, AtomicValue, atomicvalue, qname_value}
use Rattle.grammar.proofs.Atomic.{Values, any_version, later, atomic_class, atomic_shape}
use Rattle.grammar.proofs.Payloads.{payload_derived}
use Rattle.grammar.proofs.Leaves.{number_derived, text_derived, name_derived, qname_derived, header_derived}

-- the state at a point: its mode, the open elements of the innermost document, and the documents around it
abbrev pub state_of : Point → Mode → ℕ → List Scope → State
state_of s m e os = state s.at m (scope s.version s.known s.qknown e) os s.names s.qnames s.events

-- ---- walks

pub record Fits (room : Room) (s : State) : Type 0 where
  pub names : length s.names ≤ room.names
  pub qnames : length s.qnames ≤ room.qnames
  pub events : length s.events ≤ room.events

pub record Grows (s t : State) : Type 0 where
  pub names : length s.names ≤ length t.names
  pub qnames : length s.qnames ≤ length t.qnames
  pub events : length s.events ≤ length t.events

longer : {A : Type 0} (l m : List A) → length l ≤ length (l ++ m)
longer l m = simp length-append (omega arith)

room_for : {A : Type 0} (l : List A) (a : A) {n : ℕ} → length (l ++ (a ∷ [])) ≤ n → length l < n
room_for l a {n} h = let q : length l + 1 ≤ n = simp length-append at h in omega arith

grows : (s : State) (x : Step) → Goes x → Grows s (apply s x)
grows s (step.End place) g = absurd g
grows s (step.Name place units next) g = record { names = longer s.names _; qnames = omega arith; events = omega arith }
grows s (step.Qname uri prefix local next) g = record { names = omega arith; qnames = longer s.qnames _; events = omega arith }
grows s (step.Skip next) g = record { names = omega arith; qnames = omega arith; events = omega arith }
grows s (step.Flush next) g = record { names = omega arith; qnames = omega arith; events = omega arith }
grows s (step.Event token a b m next) g = record { names = omega arith; qnames = omega arith; events = longer s.events _ }
grows s (step.Refer token number m next) g = record { names = omega arith; qnames = omega arith; events = longer s.events _ }
grows s (step.Open number next) g = record { names = omega arith; qnames = omega arith; events = longer s.events _ }
grows s (step.Pi target start next) g = record { names = omega arith; qnames = omega arith; events = longer s.events _ }
grows s (step.Close next) g = record { names = omega arith; qnames = omega arith; events = longer s.events _ }
grows s (step.Nest version next) g = record { names = omega arith; qnames = omega arith; events = longer s.events _ }
grows s (step.Leave next) g = go s.outer
  where
    go : (os : List Scope) → Grows s (machine.returned s os next)
    go [] = record { names = omega arith; qnames = omega arith; events = omega arith }
    go (o ∷ os) = record { names = omega arith; qnames = omega arith; events = longer s.events _ }

-- the number of all open elements, and of the nested documents, as the tests for 8 see them: those of reading, or others
-- for a walk that no limit stops
module _ (opened : ℕ → List Scope → ℕ) (nested : List Scope → ℕ) (doc : List ℕ) (room : Room) where
  -- what the next token is judged by; with reading's own numbers it is `view`
  abbrev pub look : State → View
  look s =
      record {
        at = s.at;
        mode = s.mode;
        version = s.here.version;
        elements = s.here.elements;
        opened = opened s.here.elements s.outer;
        depth = nested s.outer;
        known = length s.here.names;
        base = length (names_in s.outer);
        qknown = length s.here.qnames;
        qbase = length (qnames_in s.outer);
        names = length s.names;
        qnames = length s.qnames;
        events = length s.events;
      }

  -- the steps from one state to another
  pub data Path : State → State → Type 0 where
    none : {s : State} → Path s s
    by : {s u : State} (x : Step) → Goes x → Ok x ≡ step_at doc (look s) room → Path (apply s x) u → Path s u

  -- a walk of the machine, where the rows at its end have room
  pub record Reach (s t : State) : Type 0 where
    pub grow : Grows s t
    pub steps : Fits room t → Path s t

  pub stay : {s : State} → Reach s s
  stay = record { grow = record { names = omega arith; qnames = omega arith; events = omega arith }; steps = λ f. none }

  join : {s t u : State} → Path s t → Path t u → Path s u
  join none y = y
  join (by x g e t) y = by x g e (join t y)

  infixr 40 ◌⨾◌
  pub ◌⨾◌ : {s t u : State} → Reach s t → Reach t u → Reach s u
  ◌⨾◌ a b =
      let g = a.grow in
      let h = b.grow in
      record {
        grow = record { names = omega (arith, g.names, h.names); qnames = omega (arith, g.qnames, h.qnames); events = omega (arith, g.events, h.events) };
        steps = λ f. join (a.steps (record { names = omega (arith, f.names, h.names); qnames = omega (arith, f.qnames, h.qnames); events = omega (arith, f.events, h.events) })) (b.steps f);
      }

  -- one step
  one : (s : State) (x : Step) → Goes x → (Fits room (apply s x) → Ok x ≡ step_at doc (look s) room) → Reach s (apply s x)
  one s x g w = record { grow = grows s x g; steps = λ f. by x g (w f) none }

  -- ---- the step of a token
  at_token : (v : View) (c : Class) {k : ℕ} → Byte doc v.at k → in_declaration v.mode ≡ false → class_of k ≡ c → allowed c v ≡ true
      → class_step c doc v room k ≡ step_at doc v room
  unfolding step_at token_step
  at_token v c b d e a = rw (lt-ltb _ _ b.inside, d, b.is, e, a)

  text_step_fact : (v : View) (k : ℕ) (m : Mode) {place units : ℕ} → text_at 5 doc (v.at + 1) ≡ Ok (text place units) → v.events < room.events
      → Ok (step.Event k place units m (place + 2 * units)) ≡ text_step doc v room k m
  unfolding text_step event_due
  text_step_fact v k m e l = rw (e, lt-ltb _ _ l)

  module _ (e : ℕ) (os : List Scope) where
    -- a token with a text; `m'` is the mode after it
    pub texted : (k : ℕ) (c : Class) (m m' : Mode) {s t : Point} → in_declaration m ≡ false → class_of k ≡ c → ((s : Point) → allowed c (look (state_of s m e os)) ≡ true)
        → ((s : Point) → text_step doc (look (state_of s m e os)) room k m' ≡ class_step c doc (look (state_of s m e os)) room k) → TextToken doc k s t
        → Reach (state_of s m e os) (state_of t m' e os)
    texted k c m m' {s = s} d o a w (texttoken {place = place} {units = units} b x) =
        one (state_of s m e os) (step.Event k place units m' (place + 2 * units)) tt
        (λ f. text_step_fact _ k m' (text_derived doc x) (room_for s.events _ f.events) ∙ w s ∙ at_token _ c b d o (a s))

    -- in an XML declaration
    pub encoding : {s t : Point} → TextToken doc 0xFD s t → Reach (state_of s mode.AfterXmlDecl e os) (state_of t mode.AfterEncoding e os)
    unfolding step_at declared_step
    encoding {s = s} (texttoken {place = place} {units = units} b x) =
        one (state_of s mode.AfterXmlDecl e os) (step.Event 0xFD place units mode.AfterEncoding (place + 2 * units)) tt
        (λ f. text_step_fact (look (state_of s mode.AfterXmlDecl e os)) 0xFD mode.AfterEncoding (text_derived doc x) (room_for s.events (event 0xFD s.at place units) f.events) ∙ rw (lt-ltb _ _ b.inside, b.is))

    byte_not : (value : ℕ) → value ≤ 2 → eqb value 0xFD ≡ false
    byte_not value l = go (eqb value 0xFD) refl
      where
        go : (x : Bool) → eqb value 0xFD ≡ x → eqb value 0xFD ≡ false
        go true h = let q = eqb-true value 0xFD h in absurd (let z : ⊥ = omega arith in z)
        go false h = h

    pub after_xmldecl : {s t : Point} → Standalone doc s t → Reach (state_of s mode.AfterXmlDecl e os) (state_of t mode.Prolog e os)
    unfolding step_at declared_step event_due
    after_xmldecl {s = s} (standalone {value = value} b l) =
        one (state_of s mode.AfterXmlDecl e os) (step.Event 0 value 0 mode.Prolog (s.at + 1)) tt
        (λ f. rw (lt-ltb _ _ b.inside, b.is, byte_not value l, le-leb _ _ l, lt-ltb _ _ (room_for s.events _ f.events)))

    pub after_encoding : {s t : Point} → Standalone doc s t → Reach (state_of s mode.AfterEncoding e os) (state_of t mode.Prolog e os)
    unfolding step_at declared_step event_due
    after_encoding {s = s} (standalone {value = value} b l) =
        one (state_of s mode.AfterEncoding e os) (step.Event 0 value 0 mode.Prolog (s.at + 1)) tt
        (λ f. rw (lt-ltb _ _ b.inside, b.is, le-leb _ _ l, lt-ltb _ _ (room_for s.events _ f.events)))

    -- metadata
    pub metadata : (m : Mode) {s t : Point} → in_declaration m ≡ false → (content m || in_attributes m) ≡ true → Metadata doc s t
        → Reach (state_of s m e os) (state_of t (after_metadata m) e os)
    unfolding class_step name_step qname_step extension_step class_of
    metadata m {s = s} d a (a_namedef (namedef {place = place} {units = units} b x)) =
        one (state_of s m e os) (step.Name place units (place + 2 * units)) tt
        (λ f. rw (text_derived doc x, lt-ltb _ _ (room_for s.names _ f.names)) at (at_token (look (state_of s m e os)) class.NameDef b d refl a))
    metadata m {s = s} d a (a_qnamedef (qnamedef {uri = uri} {prefix = prefix} {local = local} {next = next} b x y z)) =
        one (state_of s m e os) (step.Qname (record { 0 = uri }) (record { 0 = prefix }) (record { 0 = local }) next) tt
        (λ f. rw (name_derived doc s x, name_derived doc s y, name_derived doc s z, lt-ltb _ _ (room_for s.qnames _ f.qnames)) at (at_token (look (state_of s m e os)) class.QnameDef b d refl a))
    metadata m {s = s} d a (an_extension (extension {size = size} {next = next} b x l)) =
        one (state_of s m e os) (step.Skip (next + size)) tt
        (λ f. rw (number_derived doc x, le-leb _ _ l) at (at_token (look (state_of s m e os)) class.Extension b d refl a))
    metadata m {s = s} d a (flush_defined_name_tokens b) =
        one (state_of s m e os) (step.Flush (s.at + 1)) tt (λ f. at_token (look (state_of s m e os)) class.Flush b d refl a)

    -- a PI
    pub instruction : (m : Mode) {s t : Point} → in_declaration m ≡ false → content m ≡ true → Pi doc s t → Reach (state_of s m e os) (state_of t (after_misc m) e os)
    unfolding class_step pi_step event_due class_of
    instruction m {s = s} d a (pi {target = target} {start = start} {place = place} {units = units} b x y) =
        one (state_of s m e os) (step.Pi (record { 0 = target }) start (place + 2 * units)) tt
        (λ f. rw (name_derived doc s x, text_derived doc y, lt-ltb _ _ (room_for s.events _ f.events)) at (at_token (look (state_of s m e os)) class.Pi b d refl a))

    -- a value
    value_token : (v : View) {c : Class} {k : ℕ} → Values v.version c → class_of k ≡ c → Byte doc v.at k → in_declaration v.mode ≡ false
        → (content v.mode || in_attributes v.mode) ≡ true → value_step doc v room k ≡ step_at doc v room
    unfolding class_step
    value_token v any_version o b d a = at_token v class.Value b d o a
    value_token v (later h) o b d a = at_token v class.LaterValue b d o (rw (a, h))

    pub value : (m : Mode) {s t : Point} → in_declaration m ≡ false → (content m || in_attributes m) ≡ true → AtomicValue doc s t
        → Reach (state_of s m e os) (state_of t (after_value m) e os)
    unfolding value_step event_due field_at extent_at
    value m {s = s} d a (atomicvalue {token = token} {place = place} {size = size} b k x) =
        one (state_of s m e os) (step.Event token place size (after_value m) (place + size)) tt
        (λ f. rw (atomic_shape k, payload_derived doc x, lt-ltb _ _ (room_for s.events _ f.events)) at (value_token (look (state_of s m e os)) (atomic_class k) refl b d a))
    value m {s = s} d a (qname_value {token = token} {number = number} {next = next} b k x) =
        one (state_of s m e os) (step.Refer token (record { 0 = number }) (after_value m) next) tt
        (λ f. rw (atomic_shape k, number_derived doc x.mb32, le-leb _ _ x.positive, le-leb _ _ x.defined, lt-ltb _ _ (room_for s.events _ f.events)) at (value_token (look (state_of s m e os)) (atomic_class k) refl b d a))

    -- attributes
    pub attribute : (m : Mode) (s : Point) {number next : ℕ} → in_declaration m ≡ false → (is m mode.Tag || in_attributes m) ≡ true → Byte doc s.at 0xF6
        → QnameReference doc s (s.at + 1) number next → Reach (state_of s m e os) (state_of (past_qname s 0xF6 number next) mode.Attributes e os)
    unfolding class_step attribute_step event_due class_of
    attribute m s {number} {next} d a b x =
        one (state_of s m e os) (step.Refer 0xF6 (record { 0 = number }) mode.Attributes next) tt
        (λ f. rw (qname_derived doc s x, lt-ltb _ _ (room_for s.events _ f.events)) at (at_token (look (state_of s m e os)) class.Attribute b d refl a))

    pub end_attributes : (s : Point) → Byte doc s.at 0xF5 → Reach (state_of s mode.Attributes e os) (state_of (past_end s 0xF5) mode.Content e os)
    unfolding class_step event_due class_of
    end_attributes s b =
        one (state_of s mode.Attributes e os) (step.Event 0xF5 0 0 mode.Content (s.at + 1)) tt
        (λ f. rw (lt-ltb _ _ (room_for s.events _ f.events)) at (at_token (look (state_of s mode.Attributes e os)) class.EndAttributes b refl refl refl))

    pub cdata_end : (s : Point) → Byte doc s.at 0xF1 → Reach (state_of s mode.Cdata e os) (state_of (past_end s 0xF1) mode.Content e os)
    unfolding class_step event_due class_of
    cdata_end s b =
        one (state_of s mode.Cdata e os) (step.Event 0xF1 0 0 mode.Content (s.at + 1)) tt
        (λ f. rw (lt-ltb _ _ (room_for s.events _ f.events)) at (at_token (look (state_of s mode.Cdata e os)) class.CdataEnd b refl refl refl))

    -- elements
    pub opens : (m : Mode) (s : Point) {number next : ℕ} → in_declaration m ≡ false → content m ≡ true → opened e os < 64 → Byte doc s.at 0xF8
        → QnameReference doc s (s.at + 1) number next → Reach (state_of s m e os) (state_of (past_qname s 0xF8 number next) mode.Tag (e + 1) os)
    unfolding class_step element_step event_due class_of
    opens m s {number} {next} d a l b x =
        one (state_of s m e os) (step.Open (record { 0 = number }) next) tt
        (λ f. rw (lt-ltb _ _ l, qname_derived doc s x, lt-ltb _ _ (room_for s.events _ f.events)) at (at_token (look (state_of s m e os)) class.Element b d refl a))

    pub closes : (m : Mode) (s : Point) → in_declaration m ≡ false → content m ≡ true → Byte doc s.at 0xF7
        → Reach (state_of s m (e + 1) os) (state_of (past_end s 0xF7) mode.Content e os)
    unfolding class_step event_due class_of
    closes m s d a b =
        let l : 0 < e + 1 = omega arith in
        let z : (e + 1) - 1 ≡ e = omega arith in
        rw z at (one (state_of s m (e + 1) os) (step.Close (s.at + 1)) tt
        (λ f. rw (lt-ltb _ _ (room_for s.events _ f.events)) at (at_token (look (state_of s m (e + 1) os)) class.EndElement b d refl (rw (a, lt-ltb _ _ l)))))

    -- nested documents
    pub nests : (m : Mode) (s : Point) (version : ℕ) → in_declaration m ≡ false → content m ≡ true → nested os < 8 → Byte doc s.at 0xEC → HeaderBytes doc (s.at + 1) version
        → Reach (state_of s m e os) (state_of (past_header (past_nest s version) version) mode.First 0 (scope s.version s.known s.qknown e ∷ os))
    unfolding class_step nest_step event_due class_of
    nests m s version d a l b x =
        one (state_of s m e os) (step.Nest version ((s.at + 1) + 5)) tt
        (λ f. rw (lt-ltb _ _ l, header_derived doc x, lt-ltb _ _ (room_for s.events _ f.events)) at (at_token (look (state_of s m e os)) class.Nest b d refl a))

    pub leaves : (m : Mode) (s t : Point) → 0 < nested (scope s.version s.known s.qknown e ∷ os) → in_declaration m ≡ false → content m ≡ true → Byte doc t.at 0xEB
        → Reach (state_of t m 0 (scope s.version s.known s.qknown e ∷ os)) (state_of (past_end_nest s t) mode.Content e os)
    unfolding class_step event_due class_of
    leaves m s t l d a b =
        one (state_of t m 0 (scope s.version s.known s.qknown e ∷ os)) (step.Leave (t.at + 1)) tt
        (λ f. rw (lt-ltb _ _ (room_for t.events _ f.events)) at (at_token (look (state_of t m 0 (scope s.version s.known s.qknown e ∷ os))) class.EndNest b d refl (rw (a, lt-ltb _ _ l))))

-- What reading accepts, the grammar derives with the same rows: by induction over the steps of the reading, from the last
-- to the first. Assumes nothing.
use Prim.Native.Nat.{ℕ, ◌+◌, ◌≤◌, ◌<◌}
use mathlib.Core.Path.{◌≡◌, refl, sym, ap, subst}
use mathlib.Core.Bool.{true, ◌&&◌, ◌||◌}
use mathlib.Core.List.{List, [], ◌∷◌}
use native.Mathlib.Omega.{arith}
use lib.Dec.{ltb}
use lib.ListN.{length, get_or}
use borrow.Author.Tests.{ltb-true, eqb-true}
use Rattle.sequences.proofs.Tests.{and_left, and_right}
use Rattle.std.specs.Prelude.{Result, Ok, Err}
use Rattle.token.specs.Tokens.{shape_of}
use Rattle.token.specs.Faults.{refusal}
use Rattle.token.specs.declared.Fault.TheVariants.{Missing}
use Rattle.token.specs.declared.Refusal.{Refusal}
use Rattle.token.specs.declared.QnameNumber.{QnameNumber}
use Rattle.token.specs.declared.Class.{Class}
use Rattle.token.specs.declared.Class.TheVariants as class
use Rattle.token.specs.declared.Shape.{Shape}
use Rattle.token.specs.declared.Shape.TheVariants as shape
use Rattle.number.specs.Number.{number, number_at}
use Rattle.number.specs.declared.Number as numbers
use Rattle.rules.specs.Rules.{lawful}
use Rattle.value.specs.Fields.{text, text_at, qname_payload, extent_at, ruled, field_at}
use Rattle.value.specs.declared.Field.{Field}
use Rattle.value.specs.declared.Field.TheVariants as field
use Rattle.modes.specs.Modes.{content, in_attributes, allowed}
use Rattle.modes.specs.declared.Mode.{Mode}
use Rattle.modes.specs.declared.View.{View}
use Rattle.scan.specs.declared.Room.{Room}
use Rattle.scan.specs.declared.Step.{Step}
use Rattle.machine.specs.Machine as machine
use Rattle.machine.specs.Machine.{Scope, State, view, apply}
use Rattle.machine.proofs.Goes.{Goes}
use Rattle.machine.proofs.Trace as traces
use Rattle.machine.proofs.Trace.{Trace}
use Rattle.machine.proofs.Codes.{coded, reference_shape}
use Rattle.machine.proofs.Found as found
use Rattle.machine.proofs.Found.{Stands, TextLeads, ValueClass, Found, found_step}
use Rattle.grammar.specs.Grammar.{Point, point, past_text, past_qname, Atomic, Byte, TextToken, texttoken, standalone, a_namedef, namedef, a_qnamedef, qnamedef, an_extension, extension, flush_defined_name_tokens, comment, pi, misc_comment, misc_pi, a_comment, a_pi, AtomicValue, atomicvalue, qname_value}
use Rattle.grammar.proofs.Atomic.{Values, any_version, later, class_atomic}
use Rattle.grammar.proofs.Payloads.{payload_found}
use Rattle.grammar.proofs.Leaves.{number_found, text_found, name_found, qname_found, header_found}
use Rattle.grammar.proofs.Rest as rest
use Rattle.grammar.proofs.Rest.{Rest}

-- the point of a state, and what is left of the document from a state on
abbrev pub point_of : State → Point
point_of s = point s.at s.here.version s.here.names s.here.qnames s.names s.qnames s.events

abbrev pub Left : List ℕ → State → Point → Type 0
Left doc s u = Rest doc s.here.elements s.outer s.mode (point_of s) u

module _ (doc : List ℕ) where
  -- the token that stands at a state's place
  byte : {v : View} {c : Class} {k : ℕ} → Stands doc v c → get_or doc v.at 0 ≡ k → Byte doc v.at k
  byte t e = record { inside = t.inside; is = e }

  -- ---- texts
  text_token : (s : Point) (token : ℕ) {place units : ℕ} → Byte doc s.at token → text_at 5 doc (s.at + 1) ≡ Ok (text place units)
      → TextToken doc token s (past_text s token place units)
  text_token s token b e = texttoken b (text_found doc (s.at + 1) e)

  texts : (s : State) {c : Class} {m : Mode} {place units : ℕ} {u : Point} → Stands doc (view s) c → TextLeads s.mode c m
      → text_at 5 doc (s.at + 1) ≡ Ok (text place units)
      → Rest doc s.here.elements s.outer m (past_text (point_of s) (get_or doc s.at 0) place units) u → Left doc s u
  texts s t found.xml_decl e r =
      let k : get_or doc s.at 0 ≡ 0xFE = eqb-true _ _ (coded _ t.class_is) in
      rest.xml_decl_fact doc s.mode t.may (text_token (point_of s) 0xFE (byte t k) e) (rw k at r)
  texts s t found.doc_type e r =
      let k : get_or doc s.at 0 ≡ 0xFC = eqb-true _ _ (coded _ t.class_is) in
      rest.doc_type_fact doc s.mode t.may (text_token (point_of s) 0xFC (byte t k) e) (rw k at r)
  texts s t found.system e r =
      let k : get_or doc s.at 0 ≡ 0xFB = eqb-true _ _ (coded _ t.class_is) in
      rest.system doc s.mode t.may (text_token (point_of s) 0xFB (byte t k) e) (rw k at r)
  texts s t found.public e r =
      let k : get_or doc s.at 0 ≡ 0xFA = eqb-true _ _ (coded _ t.class_is) in
      rest.public doc s.mode t.may (text_token (point_of s) 0xFA (byte t k) e) (rw k at r)
  texts s t found.subset e r =
      let k : get_or doc s.at 0 ≡ 0xF9 = eqb-true _ _ (coded _ t.class_is) in
      rest.subset doc s.mode t.may (text_token (point_of s) 0xF9 (byte t k) e) (rw k at r)
  texts s t found.comment e r =
      let k : get_or doc s.at 0 ≡ 0xF3 = eqb-true _ _ (coded _ t.class_is) in
      let x = comment (text_token (point_of s) 0xF3 (byte t k) e) in
      rest.misc doc s.mode t.may (misc_comment x) (a_comment x) (rw k at r)
  texts s t found.cdata e r =
      let k : get_or doc s.at 0 ≡ 0xF2 = eqb-true _ _ (coded _ t.class_is) in
      rest.cdata doc s.mode t.may (text_token (point_of s) 0xF2 (byte t k) e) (rw k at r)

  -- ---- values
  value_may : (v : View) {c : Class} → ValueClass c → allowed c v ≡ true → (content v.mode || in_attributes v.mode) ≡ true
  value_may v found.any_version a = a
  value_may v found.version_2 a = and_left (content v.mode || in_attributes v.mode) _ a

  values : (v : View) {c : Class} → ValueClass c → allowed c v ≡ true → Values v.version c
  values v found.any_version a = any_version
  values v found.version_2 a = later (eqb-true _ _ (and_right (content v.mode || in_attributes v.mode) _ a))

  atom : (s : State) {c : Class} → Stands doc (view s) c → ValueClass c → Atomic s.here.version (get_or doc s.at 0) (shape_of (get_or doc s.at 0))
  atom s t k =
      class_atomic s.here.version (get_or doc s.at 0)
      (subst (λ (c : Class). Values s.here.version c) (sym t.class_is) (values (view s) k t.may))

  -- a qname's number, as the value of XSD-QNAME
  abbrev as_number : Result Field Refusal → Result numbers.Number Refusal
  as_number (Ok (field.Payload place size)) = Err (refusal Missing 0)
  as_number (Ok (field.Reference k next)) = Ok (number k.0 next)
  as_number (Err r) = Err r

  qname_by : (n : Result numbers.Number Refusal) {k : QnameNumber} {next : ℕ} → qname_payload n ≡ Ok (field.Reference k next) → n ≡ Ok (number k.0 next)
  qname_by (Ok x) e = ap as_number e
  qname_by (Err r) e = rest.clash (cc)

  ruled_qname : (at : ℕ) (f : Result Field Refusal) {k : QnameNumber} {next : ℕ} → ruled shape.Qname doc at f ≡ Ok (field.Reference k next) → f ≡ Ok (field.Reference k next)
  unfolding lawful
  ruled_qname at (Ok (field.Payload place size)) e = rest.clash (cc)
  ruled_qname at (Ok (field.Reference m next)) e = e
  ruled_qname at (Err r) e = rest.clash (cc)

  qname_at_fact : (at : ℕ) {k : QnameNumber} {next : ℕ} → field_at shape.Qname doc at ≡ Ok (field.Reference k next) → number_at 5 doc (at + 1) ≡ Ok (number k.0 next)
  unfolding field_at extent_at
  qname_at_fact at e = qname_by (number_at 5 doc (at + 1)) (ruled_qname at (qname_payload (number_at 5 doc (at + 1))) e)

  referring : (s : State) {c : Class} {k : QnameNumber} {next : ℕ} → Stands doc (view s) c → ValueClass c
      → field_at (shape_of (get_or doc s.at 0)) doc s.at ≡ Ok (field.Reference k next) → 1 ≤ k.0 → k.0 ≤ length s.here.qnames
      → AtomicValue doc (point_of s) (past_qname (point_of s) (get_or doc s.at 0) k.0 next)
  referring s t c e a b =
      let q = reference_shape (shape_of (get_or doc s.at 0)) doc s.at e in
      qname_value (byte t refl) (subst (λ (h : Shape). Atomic s.here.version (get_or doc s.at 0) h) q (atom s t c))
      (record { mb32 = number_found doc 5 (s.at + 1) (qname_at_fact s.at (rw q at e)); positive = a; defined = b })

  -- ---- a nested document ends
  left_by : (s : State) (os : List Scope) {u : Point} → s.outer ≡ os → Stands doc (view s) class.EndNest → Left doc (machine.returned s os (s.at + 1)) u
      → Rest doc s.here.elements os s.mode (point_of s) u
  left_by s [] e t r =
      let d : 0 < length s.outer = ltb-true _ _ (and_right (content s.mode) _ (and_left (content s.mode && ltb 0 (length s.outer)) _ t.may)) in
      let z : length s.outer ≡ 0 = ap length e in
      absurd (let q : ⊥ = omega arith in q)
  left_by s (o ∷ os) e t r =
      let c : content s.mode ≡ true = and_left (content s.mode) _ (and_left (content s.mode && ltb 0 (length s.outer)) _ t.may) in
      let z : s.here.elements ≡ 0 = eqb-true _ _ (and_right (content s.mode && ltb 0 (length s.outer)) _ t.may) in
      rest.leaving doc s.mode s.here.elements o os (point_of s) c z (byte t (eqb-true _ _ (coded _ t.class_is))) r

  -- ---- one step
  moved : (s : State) (room : Room) {x : Step} {u : Point} → Goes x → Found doc (view s) room (Ok x) → Left doc (apply s x) u → Left doc s u
  moved s room g (found.ended l d e c) r = absurd g
  moved s room g (found.name_def t e n) r =
      rest.metadata doc s.mode t.may (a_namedef (namedef (byte t (eqb-true _ _ (coded _ t.class_is))) (text_found doc (s.at + 1) e))) r
  moved s room g (found.qname_def {p = p} {q = q} t a b c n) r =
      rest.metadata doc s.mode t.may
      (a_qnamedef (qnamedef (byte t (eqb-true _ _ (coded _ t.class_is))) (name_found doc (point_of s) (s.at + 1) a) (name_found doc (point_of s) p b) (name_found doc (point_of s) q c))) r
  moved s room g (found.skip t e l) r =
      rest.metadata doc s.mode t.may (an_extension (extension (byte t (eqb-true _ _ (coded _ t.class_is))) (number_found doc 5 (s.at + 1) e) l)) r
  moved s room g (found.flush t) r = rest.metadata doc s.mode t.may (flush_defined_name_tokens (byte t (eqb-true _ _ (coded _ t.class_is)))) r
  moved s room g (found.texted t l e n) r = texts s t l e r
  moved s room g (found.encoding i m b e n) r =
      rw m (rest.encoding doc (text_token (point_of s) 0xFD (record { inside = i; is = b }) e) (rw b at r))
  moved s room g (found.standalone i d b n) r = rest.standing doc s.mode d (standalone (record { inside = i; is = refl }) b) r
  moved s room g (found.end_attributes t n) r =
      let k : get_or doc s.at 0 ≡ 0xF5 = eqb-true _ _ (coded _ t.class_is) in
      rest.att_end doc s.mode (point_of s) t.may (byte t k) (rw k at r)
  moved s room g (found.cdata_end t n) r =
      let k : get_or doc s.at 0 ≡ 0xF1 = eqb-true _ _ (coded _ t.class_is) in
      rest.cdata_end doc s.mode (point_of s) t.may (byte t k) (rw k at r)
  moved s room g (found.value t c e n) r = rest.value doc s.mode (value_may (view s) c t.may) (atomicvalue (byte t refl) (atom s t c) (payload_found doc (shape_of (get_or doc s.at 0)) s.at e)) r
  moved s room g (found.qname_value t c e a b n) r = rest.value doc s.mode (value_may (view s) c t.may) (referring s t c e a b) r
  moved s room g (found.attribute t e n) r =
      rest.att doc s.mode (point_of s) t.may (byte t (eqb-true _ _ (coded _ t.class_is))) (qname_found doc (point_of s) (s.at + 1) e) r
  moved s room g (found.element t o e n) r =
      rest.opening doc s.mode s.here.elements s.outer (point_of s) t.may o (byte t (eqb-true _ _ (coded _ t.class_is))) (qname_found doc (point_of s) (s.at + 1) e) r
  moved s room g (found.close t n) r =
      rest.closing doc s.mode s.here.elements s.outer (point_of s) (and_left (content s.mode) _ t.may) (ltb-true _ _ (and_right (content s.mode) _ t.may))
      (byte t (eqb-true _ _ (coded _ t.class_is))) r
  moved s room g (found.pi {start = start} t a e n) r =
      let x = pi {s = point_of s} (byte t (eqb-true _ _ (coded _ t.class_is))) (name_found doc (point_of s) (s.at + 1) a) (text_found doc start e) in
      rest.misc doc s.mode t.may (misc_pi x) (a_pi x) r
  moved s room g (found.nest {version = version} t d e n) r =
      let h = header_found doc (s.at + 1) e in
      rest.nest doc s.mode s.here.elements s.outer (point_of s) version t.may d (byte t (eqb-true _ _ (coded _ t.class_is))) h.0 (rw h.1 at r)
  moved s room g (found.leave t n) r = left_by s s.outer refl t r

  -- ---- all steps
  pub sound : {room : Room} {s f : State} {u : Point} → Trace doc room s f → Left doc f u → Left doc s u
  sound traces.none r = r
  sound {room} (traces.by {s = s} x g e t) r = moved s room g (found_step doc (view s) room e) (sound t r)

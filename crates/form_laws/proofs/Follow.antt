-- An event of the source is followed by the form's definitions and the same event. Each lemma takes the way on from the next
-- state to the way on from this one. Assumes nothing.
use Prim.Native.Nat.{ℕ, zero, suc, ◌+◌, ◌*◌, ◌/◌, ◌≤◌}
use mathlib.Core.Path.{◌≡◌, refl, sym, ◌∙◌, ap}
use mathlib.Core.Bool.{true, false}
use mathlib.Core.List.{List, [], ◌∷◌, ◌++◌, map, append_assoc}
use native.Mathlib.Omega.{arith}
use lib.Dec.{eqb}
use lib.ListN.{length, drop, length-append}
use Rattle.sequences.specs.Lists.{part, In}
use Rattle.sequences.proofs.Overlay.{part_length}
use Rattle.number.specs.Number.{shortest}
use Rattle.value.specs.Fields.{text, text_at}
use Rattle.std.specs.Prelude.{Ok}
use Rattle.value.proofs.Fields.{text_lies, is_lies}
use Rattle.modes.specs.Modes.{content}
use Rattle.modes.specs.declared.Mode.{Mode}
use Rattle.scan.specs.declared.Room.{Room}
use Rattle.machine.specs.Machine.{NameRow, QnameRow, EventRow, event, scope, State, row_of, Event, plain, name_text, qname_event, event_of}
use Rattle.machine.specs.Machine as machine
use Rattle.form.specs.Canonical.{Triple, same_triple, place, qnumber_of, with_units, Scopes, emit, scopes_after, body, qname_definition}
use Rattle.grammar.specs.Grammar.{Byte, Point, past_event, past_end, past_qname, TextToken, texttoken, QnameReference}
use Rattle.grammar.proofs.Leaves.{number_found}
use Rattle.grammar.proofs.Sound.{point_of}
use Rattle.grammar.proofs.Steps.{state_of, ◌⨾◌}
use Rattle.grammar.proofs.Ends.{all_open, all_nested}
use Rattle.form_laws.proofs.Lists.{drop_byte, in_get_d}
use Rattle.form_laws.proofs.Written.{Fit, number_at_fact, text_at_fact}
use Rattle.form_laws.proofs.Modes.{Earlier, earlier_equal, Alike, alike_on, alike_earlier}
use Rattle.form_laws.proofs.Texts.{qname_there}
use Rattle.form_laws.proofs.Scopes.{Onto, onto_on, row_triple, qname_says, half_at}
use Rattle.form_laws.proofs.Define.{Ghost, Few, Walk, Sim, with_left, Metas, metas_alike, less, Ready, define_all}

-- a text that reading found
pub text_fit : (d : List ℕ) (p : ℕ) {place units : ℕ} → text_at 5 d p ≡ Ok (text place units) → Fit (part d place (2 * units))
text_fit d p {place} {units} e =
    let l = is_lies (length d) p e (text_lies 5 d p) in
    let n = part_length d place (2 * units) l.1 in
    record { even = rw n (omega arith); small = rw n (omega (arith, l.2)) }

-- the row of a number that is known
pub known_row : (known : List ℕ) (n : ℕ) → 1 ≤ n → n ≤ length known → In (row_of known n) known
known_row known zero l h = absurd (let q : ⊥ = omega arith in q)
known_row known (suc k) l h = in_get_d known k (omega arith)

-- a token's rows are told by its texts
abbrev pub TextTold : ℕ → Type 0
TextTold k = (doc : List ℕ) (names : List NameRow) (qnames : List QnameRow) (at a b : ℕ) → event_of doc names qnames (event k at a b) ≡ machine.texted k (part doc a (2 * b))

abbrev pub QnameTold : ℕ → Type 0
QnameTold k = (doc : List ℕ) (names : List NameRow) (qnames : List QnameRow) (at a b : ℕ) → event_of doc names qnames (event k at a b) ≡ qname_event doc names qnames k a

abbrev pub PlainTold : ℕ → Type 0
PlainTold k = (doc : List ℕ) (names : List NameRow) (qnames : List QnameRow) (at a b : ℕ) → event_of doc names qnames (event k at a b) ≡ plain k

module _ (d : List ℕ) (N : List NameRow) (Q : List QnameRow) (d' : List ℕ) (room : Room) (fit : (r : ℕ) → Fit (name_text d N r)) (E : ℕ) where
  abbrev pub tell : EventRow → Event
  tell r = event_of d N Q r

  -- where the form's reading ends: nothing open, and no more rows than the source has
  pub record Done (u : State) : Type 0 where
    pub past : length d' ≤ u.at
    pub outer_none : u.outer ≡ []
    pub elements_none : u.here.elements ≡ 0
    pub at_root : content u.mode ≡ true
    pub names_few : length u.names ≤ length N
    pub qnames_few : length u.qnames ≤ length Q
    pub events_few : length u.events ≤ E

  -- the form's reading goes on to its end, with the events and tokens of these rows of the source
  pub record Again (s' : State) (rs : List EventRow) : Type 0 where
    pub end : State
    pub walk : Walk d N Q d' room fit s' end
    pub onto : Onto s'.names s'.qnames end.names end.qnames
    pub rows : List EventRow
    pub events : end.events ≡ s'.events ++ rows
    pub same : map (event_of d' end.names end.qnames) rows ≡ map tell rs
    pub tokens : map (λ (e : EventRow). e.token) rows ≡ map (λ (e : EventRow). e.token) rs
    pub done : Done end

  -- the way on from a state of the source
  abbrev pub Next : State → List EventRow → Type 0
  Next s rs = (s' : State) (σ : Scopes) (G : Ghost) → Earlier s.mode s'.mode → Sim d N Q d' room fit s s' σ G (body σ (map tell rs)) → Again s' rs

  pub with_ready : {s s' : State} {σ : Scopes} {G : Ghost} {w : List ℕ} {rs : List EventRow} (r : Ready d N Q d' room fit s s' σ G w) → Again r.to rs → Again s' rs
  with_ready r a =
      record {
        end = a.end;
        walk = ◌⨾◌ all_open all_nested d' room r.walk a.walk;
        onto = onto_on r.onto a.onto;
        rows = a.rows;
        events = a.events ∙ ap (λ (l : List EventRow). l ++ a.rows) r.quiet;
        same = a.same;
        tokens = a.tokens;
        done = a.done;
      }

  pub with_event : {s' t' : State} {rs : List EventRow} (r r' : EventRow) → Walk d N Q d' room fit s' t' → t'.events ≡ s'.events ++ (r' ∷ []) → t'.names ≡ s'.names
      → t'.qnames ≡ s'.qnames → r'.token ≡ r.token → ((M : List NameRow) (P : List QnameRow) → Onto s'.names s'.qnames M P → event_of d' M P r' ≡ tell r)
      → Again t' rs → Again s' (r ∷ rs)
  with_event {s'} {t'} r r' w v n q k f a =
      let x : Onto s'.names s'.qnames a.end.names a.end.qnames = rw (n, q) at a.onto in
      let h = f a.end.names a.end.qnames x in
      let g = a.same in
      let j = a.tokens in
      record {
        end = a.end;
        walk = ◌⨾◌ all_open all_nested d' room w a.walk;
        onto = x;
        rows = r' ∷ a.rows;
        events = a.events ∙ ap (λ (l : List EventRow). l ++ a.rows) v ∙ append_assoc s'.events (r' ∷ []) a.rows;
        same = cc;
        tokens = cc;
        done = a.done;
      }

  -- the bytes of an event, once it is known
  pub told : {s s' : State} {σ : Scopes} {G : Ghost} (rs : List EventRow) (r : EventRow) {e : Event} → tell r ≡ e
      → Sim d N Q d' room fit s s' σ G (body σ (map tell (r ∷ rs))) → drop s'.at d' ≡ emit σ.here e ++ body (scopes_after σ e) (map tell rs)
  unfolding body
  told {σ = σ} rs r h S = S.left ∙ ap (λ (x : Event). emit σ.here x ++ body (scopes_after σ x) (map tell rs)) h

  -- an event after which the same documents are open; `el` elements in the innermost
  pub on_event : {s s' : State} {σ : Scopes} {G : Ghost} {w : List ℕ} {rs : List EventRow} (r r' : EventRow) (m m' : Mode) (el el' next next' : ℕ)
      → Sim d N Q d' room fit s s' σ G w → el' ≡ el → Earlier m m' → r'.token ≡ r.token
      → ((M : List NameRow) (P : List QnameRow) → Onto s'.names s'.qnames M P → event_of d' M P r' ≡ tell r)
      → Walk d N Q d' room fit s' (state_of (past_event (point_of s') r' next') m' el' s'.outer) → drop next' d' ≡ body σ (map tell rs)
      → Next (machine.onward s r m (scope s.here.version s.here.names s.here.qnames el) next) rs → Again s' (r ∷ rs)
  on_event {s} {s'} {σ} {G} r r' m m' el el' next next' S i o k f w e go =
      let n = S.events in
      with_event r r' w refl refl refl k f
      (go (state_of (past_event (point_of s') r' next') m' el' s'.outer) σ G o
      (record {
        here = record { version = S.here.version; elements = i; names = S.here.names; qnames = S.here.qnames; parts = S.here.parts };
        outer = S.outer;
        events = simp length-append (omega arith);
        names = S.names;
        qnames = S.qnames;
        left = e;
      }))

  -- ---- a token with a text

  pub on_text : {s : State} {rs : List EventRow} (k : ℕ) {token place units : ℕ} {m : Mode} (to : Mode → Mode) → token ≡ k → TextTold k → text_at 5 d (s.at + 1) ≡ Ok (text place units)
      → ((m' : Mode) → Earlier s.mode m' → Earlier m (to m'))
      → ((s' : State) (q : Point) → Earlier s.mode s'.mode → TextToken d' k (point_of s') q → Walk d N Q d' room fit s' (state_of q (to s'.mode) s'.here.elements s'.outer))
      → Next (machine.onward s (event token s.at place units) m s.here (place + 2 * units)) rs → Next s (event token s.at place units ∷ rs)
  on_text {s} {rs} k {token} {place} {units} {m} to i says e modes walk go s' σ G o S =
      let r : EventRow = event token s.at place units in
      let h : tell r ≡ machine.texted k (part d place (2 * units)) = rw i (says d N Q s.at place units) in
      let t = part d place (2 * units) in
      let left : drop s'.at d' ≡ k ∷ (with_units t ++ body σ (map tell rs)) = told rs r h S in
      let b = drop_byte d' s'.at left in
      let x = text_at_fact d' (s'.at + 1) t (body σ (map tell rs)) (text_fit d (s.at + 1) e) b.1 in
      on_event r (event k s'.at x.place (length t / 2)) m (to s'.mode) s.here.elements s'.here.elements (place + 2 * units) (x.place + 2 * (length t / 2)) S S.here.elements
      (modes s'.mode o) (sym i) (λ M P y. says d' M P s'.at x.place (length t / 2) ∙ ap (machine.texted k) x.is ∙ sym h)
      (walk s' _ o (texttoken b.0 x.read)) x.after go

  -- ---- a token with nothing after it

  pub on_bare : {s : State} {rs : List EventRow} (k : ℕ) {token : ℕ} (m : Mode) (down : ℕ → ℕ) → token ≡ k → PlainTold k → eqb k 0xEB ≡ false
      → ((s' : State) → Earlier s.mode s'.mode → s'.here.elements ≡ s.here.elements → Byte d' s'.at k
      → Walk d N Q d' room fit s' (state_of (past_end (point_of s') k) m (down s'.here.elements) s'.outer))
      → Next (machine.onward s (event token s.at 0 0) m (scope s.here.version s.here.names s.here.qnames (down s.here.elements)) (s.at + 1)) rs
      → Next s (event token s.at 0 0 ∷ rs)
  on_bare {s} {rs} k {token} m down i says n walk go s' σ G o S =
      let r : EventRow = event token s.at 0 0 in
      let h : tell r ≡ plain k = rw i (says d N Q s.at 0 0) in
      let left : drop s'.at d' ≡ k ∷ body σ (map tell rs) = rw n at (told rs r h S) in
      let b = drop_byte d' s'.at left in
      let z : down s'.here.elements ≡ down s.here.elements = ap down S.here.elements in
      on_event r (event k s'.at 0 0) m m (down s.here.elements) (down s'.here.elements) (s.at + 1) (s'.at + 1) S z
      (earlier_equal refl) (sym i) (λ M P y. says d' M P s'.at 0 0 ∙ sym h) (walk s' o S.here.elements b.0) b.1 go

  -- ---- a token that refers to a qname

  pub on_qname : {s : State} {rs : List EventRow} (k : ℕ) {token n next : ℕ} {m : Mode} (to : Mode → Mode) (up : ℕ → ℕ) → Few s → token ≡ k → QnameTold k → 1 ≤ n → n ≤ length s.here.qnames
      → Metas s.mode → ((m' : Mode) → Alike s.mode m' → to m' ≡ m)
      → ((s' : State) (σ : Scopes) (G : Ghost) (w : List ℕ) (n' next' : ℕ) → Alike s.mode s'.mode → Sim d N Q d' room fit s s' σ G w
      → Byte d' s'.at k → QnameReference d' (point_of s') (s'.at + 1) n' next'
      → Walk d N Q d' room fit s' (state_of (past_qname (point_of s') k n' next') (to s'.mode) (up s'.here.elements) s'.outer))
      → Next (machine.onward s (event token s.at (row_of s.here.qnames n) 0) m (scope s.here.version s.here.names s.here.qnames (up s.here.elements)) next) rs
      → Next s (event token s.at (row_of s.here.qnames n) 0 ∷ rs)
  unfolding qnumber_of
  on_qname {s} {rs} k {token} {n} {next} {m} to up few i says l g metas modes walk go s' σ G o S =
      let row = row_of s.here.qnames n in
      let in-mine = S.here.qnames.held row (known_row s.here.qnames n l g) in
      let p = S.here.parts row in-mine in
      let q : Triple = p.says in
      let r : EventRow = event token s.at row 0 in
      let h : tell r ≡ machine.qnamed k q.uri q.prefix q.local = rw i (says d N Q s.at row 0 ∙ qname_says d N Q k row p.is) in
      let σ' = scopes_after σ (machine.qnamed k q.uri q.prefix q.local) in
      let j = place same_triple σ.here.qnames q in
      let left : drop s'.at d' ≡ qname_definition σ.here q ++ (k ∷ (shortest (suc j) ++ body σ' (map tell rs))) =
      told rs r h S ∙ append_assoc (qname_definition σ.here q) (k ∷ shortest (suc j)) (body σ' (map tell rs)) in
      let a = alike_earlier o in
      let R =
      define_all d N Q d' room fit q few p.uri_in p.prefix_in p.local_in_fact (record { row = row; among = in-mine; says = p.is }) (metas_alike a metas) (with_left d N Q d' room fit S left) in
      let t = R.to in
      let T = R.sim in
      let at = half_at (row_triple d N Q) (row_triple d') T.here.qnames j (qname_there σ.here q) in
      let ls = less d N Q d' room fit T in
      let b = drop_byte d' t.at T.left in
      let x = number_at_fact d' 5 (t.at + 1) (suc j) (body σ' (map tell rs)) (omega arith) (omega (arith, at.0, ls.qknown, few.qnames)) b.1 in
      let c = alike_on a R.modes in
      let z : up t.here.elements ≡ up s.here.elements = ap up T.here.elements in
      with_ready R
      (on_event r (event k t.at (row_of t.here.qnames (suc j)) 0) m (to t.mode) (up s.here.elements) (up t.here.elements) next x.next T z (earlier_equal (modes t.mode c)) (sym i)
      (λ M P y. says d' M P t.at (row_of t.here.qnames (suc j)) 0 ∙ qname_says d' M P k (row_of t.here.qnames (suc j)) (at.1 M P y) ∙ sym h)
      (walk t σ' G _ (suc j) x.next c T b.0 (record { mb32 = number_found d' 5 _ x.read; positive = omega arith; defined = omega (arith, at.0) }))
      x.after go)

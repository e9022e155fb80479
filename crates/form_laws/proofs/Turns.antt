-- The other events of the source: values, PIs, standalone bytes, nested documents; and its metadata, which the form does not
-- follow. Assumes nothing.
use Prim.Native.Nat.{ℕ, zero, suc, ◌+◌, ◌-◌, ◌*◌, ◌/◌, ◌≤◌, ◌<◌}
use mathlib.Core.Path.{◌≡◌, refl, sym, ◌∙◌, ap}
use mathlib.Core.Logic.{◌⊎◌, inl, inr}
use mathlib.Core.Bool.{true, false, ◌||◌}
use mathlib.Core.List.{List, [], ◌∷◌, ◌++◌, map, append_assoc}
use native.Mathlib.Numerals.{add-one}
use native.Mathlib.Omega.{arith}
use lib.Dec.{eqb}
use lib.ListN.{length, get_or, drop, length-append}
use borrow.Author.Tests.{eqb-true}
use Rattle.sequences.specs.Lists.{part, In}
use Rattle.sequences.proofs.Overlay.{part_length}
use Rattle.sequences.proofs.Tests.{and_left, and_right}
use Rattle.token.specs.Tokens.{longest, class_of, shape_of}
use Rattle.token.specs.declared.Class.{Class}
use Rattle.number.specs.Number.{shortest}
use Rattle.value.specs.Fields as values
use Rattle.value.specs.Fields.{text_at, field_at}
use Rattle.std.specs.Prelude.{Ok}
use Rattle.value.specs.declared.Field.TheVariants as field
use Rattle.value.proofs.Fields.{field_inside, payload_inside, payload_lawful, not_qname}
use Rattle.modes.specs.Modes.{content, in_attributes, in_declaration, allowed, after_metadata, after_misc, after_value}
use Rattle.modes.specs.declared.Mode.{Mode}
use Rattle.modes.specs.declared.Mode.TheVariants as mode
use Rattle.modes.specs.declared.View.{View}
use Rattle.scan.specs.declared.Room.{Room}
use Rattle.machine.specs.Machine.{NameRow, QnameRow, EventRow, name_row, qname_row, event, Scope, scope, State, state, view, row_of, plain, name_text, event_of}
use Rattle.machine.specs.Machine as machine
use Rattle.machine.proofs.Found as found
use Rattle.machine.proofs.Found.{Stands, ValueClass}
use Rattle.form.specs.Canonical.{triple, number_of, with_units, length_of, header_of, Scopes, scopes, scopes_after, left, body, definition}
use Rattle.grammar.specs.Grammar.{Point, point, past_header, past_nest, past_end_nest, Standalone, standalone, atomicvalue, pi}
use Rattle.grammar.proofs.Atomic.{Values, any_version, later, class_atomic}
use Rattle.grammar.proofs.Leaves.{number_found, text_derived}
use Rattle.grammar.proofs.Payloads.{payload_found}
use Rattle.grammar.proofs.Sound.{point_of}
use Rattle.grammar.proofs.Steps.{state_of, value, instruction, after_xmldecl, after_encoding, nests, leaves}
use Rattle.grammar.proofs.Ends.{all_open, all_nested}
use Rattle.form_laws.proofs.Lists.{drop_byte, in_get_d, at_last}
use Rattle.form_laws.proofs.Written.{Fit, number_at_fact, text_at_fact, header_at, payload_at}
use Rattle.form_laws.proofs.Modes.{same, earlier_equal, earlier_metadata, earlier_declares, declaring, alike_on, alike_earlier}
use Rattle.form_laws.proofs.Texts.{fresh_grown, number_grown}
use Rattle.form_laws.proofs.Scopes.{name_is, row_triple, half_none, half_few, Among, empty, text, Parts, one_name, one_qname, one_flush, document, around_depth, inner}
use Rattle.form_laws.proofs.Define.{Ghost, Few, Walk, Sim, with_left, Metas, metas_alike, less, define, Named, named_by}
use Rattle.form_laws.proofs.Follow.{text_fit, tell, Next, with_ready, with_event, told, on_event}

-- ---- values by their class

pub value_may : (v : View) {c : Class} → ValueClass c → allowed c v ≡ true → (content v.mode || in_attributes v.mode) ≡ true
value_may v found.any_version a = a
value_may v found.version_2 a = and_left (content v.mode || in_attributes v.mode) _ a

values_of : (v : View) {c : Class} → ValueClass c → allowed c v ≡ true → Values v.version c
values_of v found.any_version a = any_version
values_of v found.version_2 a = later (eqb-true _ _ (and_right (content v.mode || in_attributes v.mode) _ a))

value_told : (doc : List ℕ) (names : List NameRow) (qnames : List QnameRow) (token at a b : ℕ) {c : Class} → ValueClass c → class_of token ≡ c → eqb token 0x8C ≡ false
    → event_of doc names qnames (event token at a b) ≡ machine.valued token (part doc a b)
unfolding event_of
value_told doc names qnames token at a b found.any_version e n = rw (e, n)
value_told doc names qnames token at a b found.version_2 e n = rw e

-- the end of a nested document: a row where one is open
abbrev pub leave_rows : State → List Scope → List EventRow
leave_rows s [] = []
leave_rows s (p ∷ os) = event 0xEB s.at 0 0 ∷ []

module _ (d : List ℕ) (N : List NameRow) (Q : List QnameRow) (d' : List ℕ) (room : Room) (fit : (r : ℕ) → Fit (name_text d N r)) (E : ℕ) where
  pub on_value : {s : State} {rs : List EventRow} {c : Class} {place size : ℕ} → length d ≤ longest → Stands d (view s) c → ValueClass c
      → field_at (shape_of (get_or d s.at 0)) d s.at ≡ Ok (field.Payload place size)
      → Next d N Q d' room fit E (machine.onward s (event (get_or d s.at 0) s.at place size) (after_value s.mode) s.here (place + size)) rs
      → Next d N Q d' room fit E s (event (get_or d s.at 0) s.at place size ∷ rs)
  on_value {s} {rs} {c} {place} {size} short t k f go s' σ G o S =
      let token = get_or d s.at 0 in
      let p = part d place size in
      let l = payload_lawful (shape_of token) d s.at f in
      let n = not_qname token p l in
      let r : EventRow = event token s.at place size in
      let h : tell d N Q d' room fit E r ≡ machine.valued token p = value_told d N Q token s.at place size k t.class_is n in
      let i = payload_inside (length d) s.at f (field_inside (shape_of token) d s.at) in
      let j = part_length d place size i.1 in
      let w = body σ (map (tell d N Q d' room fit E) rs) in
      let e : drop s'.at d' ≡ token ∷ (length_of (shape_of token) p ++ (p ++ w)) = told d N Q d' room fit E rs r h S ∙ ap (λ (x : List ℕ). token ∷ x) (append_assoc (length_of (shape_of token) p) p w) in
      let b = drop_byte d' s'.at e in
      let x = payload_at d' token s'.at p w l (omega arith) b.0.inside b.1 in
      let a = alike_earlier o in
      let m : Metas s'.mode = metas_alike a (record { outside = t.outside; may = value_may (view s) k t.may }) in
      let v : Values s'.here.version (class_of token) = rw (S.here.version, t.class_is) (values_of (view s) k t.may) in
      on_event d N Q d' room fit E r (event token s'.at x.place (length p)) (after_value s.mode) (after_value s'.mode) s.here.elements
      s'.here.elements (place + size) (x.place + length p) S S.here.elements (earlier_equal a.values) refl
      (λ M P y. value_told d' M P token s'.at x.place (length p) k t.class_is n ∙ ap (machine.valued token) x.there.is ∙ sym h)
      (value all_open all_nested d' room s'.here.elements s'.outer s'.mode m.outside m.may
      (atomicvalue b.0 (class_atomic s'.here.version token v) (payload_found d' (shape_of token) s'.at x.read)))
      x.there.after go

  -- ---- the standalone byte

  standing : (p q : Point) (m : Mode) (e : ℕ) (os : List Scope) → in_declaration m ≡ true → Standalone d' p q → Walk d N Q d' room fit (state_of p m e os) (state_of q mode.Prolog e os)
  standing p q m e os h x = go (declaring m h)
    where
      go : (m ≡ mode.AfterXmlDecl) ⊎ (m ≡ mode.AfterEncoding) → Walk d N Q d' room fit (state_of p m e os) (state_of q mode.Prolog e os)
      go (inl i) = rw i (after_xmldecl all_open all_nested d' room e os x)
      go (inr i) = rw i (after_encoding all_open all_nested d' room e os x)

  pub on_standalone : {s : State} {rs : List EventRow} (v : ℕ) → v ≤ 2 → in_declaration s.mode ≡ true
      → Next d N Q d' room fit E (machine.onward s (event 0 s.at v 0) mode.Prolog s.here (s.at + 1)) rs → Next d N Q d' room fit E s (event 0 s.at v 0 ∷ rs)
  unfolding event_of class_of
  on_standalone {s} {rs} v l h go s' σ G o S =
      let r : EventRow = event 0 s.at v 0 in
      let b = drop_byte d' s'.at (told d N Q d' room fit E rs r {e = machine.standalone v} refl S) in
      let z : in_declaration s'.mode ≡ true = rw (earlier_declares o h) h in
      on_event d N Q d' room fit E r (event 0 s'.at v 0) mode.Prolog mode.Prolog s.here.elements s'.here.elements (s.at + 1) (s'.at + 1) S S.here.elements
      same refl (λ M P y. refl) (standing (point_of s') _ s'.mode s'.here.elements s'.outer z (standalone b.0 l)) b.1 go

  -- ---- a PI

  -- the text of a number that is known in the source
  among_row : (known mine : List ℕ) → ((r : ℕ) → In r known → In r mine) → (n : ℕ) → n ≤ length known → Among d N Q d' mine (name_text d N (row_of known n))
  unfolding name_text
  among_row known mine h zero l = empty
  among_row known mine h (suc k) l = text (record { row = get_or known k 0; among = h (get_or known k 0) (in_get_d known k (omega arith)); says = refl })

  pub on_pi : {s : State} {rs : List EventRow} {n start place units : ℕ} → Few s → Metas s.mode → content s.mode ≡ true → n ≤ length s.here.names
      → text_at 5 d start ≡ Ok (values.text place units)
      → Next d N Q d' room fit E (machine.onward s (event 0xF4 s.at (row_of s.here.names n) start) (after_misc s.mode) s.here (place + 2 * units)) rs
      → Next d N Q d' room fit E s (event 0xF4 s.at (row_of s.here.names n) start ∷ rs)
  unfolding event_of class_of
  on_pi {s} {rs} {n} {start} {place} {units} few metas cont l e go s' σ G o S =
      let row = row_of s.here.names n in
      let r : EventRow = event 0xF4 s.at row start in
      let target = name_text d N row in
      let t = part d place (2 * units) in
      let h : tell d N Q d' room fit E r ≡ machine.pi target t = rw e in
      let c = σ.here.names in
      let w = body (scopes_after σ (machine.pi target t)) (map (tell d N Q d' room fit E) rs) in
      let i : drop s'.at d' ≡ definition c target ++ (0xF4 ∷ (shortest (number_of c target) ++ (with_units t ++ w))) = told d N Q d' room fit E rs r h S ∙ simp append_assoc in
      let a = alike_earlier o in
      let R = define d N Q d' room fit target (among_row s.here.names G.mine S.here.names.held n l) (metas_alike a metas) (with_left d N Q d' room fit S i) in
      let q = R.to in
      let T = R.sim in
      let nm = named_by d N Q d' room fit T.here.names target (fresh_grown c target) in
      let nm' : Named d N Q d' room fit q.names q.qnames q.here.names (number_of c target) target = rw (number_grown c target) at nm in
      let ls = less d N Q d' room fit T in
      let b = drop_byte d' q.at T.left in
      let x = number_at_fact d' 5 (q.at + 1) (number_of c target) (with_units t ++ w) (omega arith) (omega (arith, nm'.low, ls.known, few.names)) b.1 in
      let y = text_at_fact d' x.next t w (text_fit d start e) x.after in
      let z = alike_on a R.modes in
      let ms = metas_alike z metas in
      with_ready d N Q d' room fit E R
      (on_event d N Q d' room fit E r (event 0xF4 q.at (row_of q.here.names (number_of c target)) x.next) (after_misc s.mode) (after_misc q.mode) s.here.elements
      q.here.elements (place + 2 * units) (y.place + 2 * (length t / 2)) T T.here.elements (earlier_equal z.miscs) refl
      (λ M P u. rw (nm'.says M P u, text_derived d' y.read, y.is) (sym h))
      (instruction all_open all_nested d' room q.here.elements q.outer q.mode ms.outside (z.contents ∙ cont) (pi b.0 (record { mb32 = number_found d' 5 _ x.read; defined = nm'.low }) y.read))
      y.after go)

  -- ---- nested documents

  pub on_nest : {s : State} {rs : List EventRow} {next : ℕ} (version : ℕ) → 1 ≤ version → version ≤ 2 → in_declaration s.mode ≡ false → content s.mode ≡ true → length s.outer < 8
      → Next d N Q d' room fit E (machine.nested s version next) rs → Next d N Q d' room fit E s (event 0xEC s.at version 0 ∷ rs)
  unfolding event_of class_of
  on_nest {s} {rs} {next} version l h out cont deep go s' σ G o S =
      let r : EventRow = event 0xEC s.at version 0 in
      let σ' : Scopes = scopes_after σ (machine.nest version) in
      let w = body σ' (map (tell d N Q d' room fit E) rs) in
      let e : drop s'.at d' ≡ 0xEC ∷ (header_of version ++ w) = told d N Q d' room fit E rs r {e = machine.nest version} refl S in
      let b = drop_byte d' s'.at e in
      let x = header_at d' (s'.at + 1) version w l h b.1 in
      let a = alike_earlier o in
      let dep = around_depth d N Q d' S.outer in
      let t' : State = state_of (past_header (past_nest (point_of s') version) version) mode.First 0 (scope s'.here.version s'.here.names s'.here.qnames s'.here.elements ∷ s'.outer) in
      let i = half_few (name_is d N) (λ M P. name_is d' M) S.here.names in
      let j = half_few (row_triple d N Q) (row_triple d') S.here.qnames in
      let n = S.names in
      let q = S.qnames in
      let ev = S.events in
      let G' : Ghost = record { mine = []; qmine = []; owed = G.owed + (length G.mine - length σ.here.names); qowed = G.qowed + (length G.qmine - length σ.here.qnames) } in
      let T : Sim d N Q d' room fit (machine.nested s version next) t' σ' G' w = record {
        here =
            record {
              version = refl;
              elements = refl;
              names = half_none (name_is d N) (λ M P. name_is d' M) _ _ _;
              qnames = half_none (row_triple d N Q) (row_triple d') _ _ _;
              parts = λ k (m : In k []). elim m [ ];
            };
        outer = document S.here S.outer;
        events = simp length-append (omega arith);
        names = omega arith;
        qnames = omega arith;
        left = x.1;
      } in
      with_event d N Q d' room fit E r (event 0xEC s'.at version 0)
      (nests all_open all_nested d' room s'.here.elements s'.outer s'.mode (point_of s') version (a.declarations ∙ out) (a.contents ∙ cont) (omega arith) b.0 x.0)
      refl refl refl refl (λ M P y. refl) (go t' σ' G' same T)

  moved : (p : Point) (m : Mode) {e f : ℕ} {os ps : List Scope} {u : State} → e ≡ f → os ≡ ps → Walk d N Q d' room fit (state_of p m f ps) u → Walk d N Q d' room fit (state_of p m e os) u
  moved p m i j w = rw (i, j) w

  pub on_leave : {s : State} {rs : List EventRow} (os : List Scope) → s.outer ≡ os → in_declaration s.mode ≡ false → content s.mode ≡ true → 0 < length os → s.here.elements ≡ 0
      → Next d N Q d' room fit E (machine.returned s os (s.at + 1)) rs → Next d N Q d' room fit E s (leave_rows s os ++ rs)
  unfolding event_of class_of
  on_leave [] i out cont l z go s' σ G o S = absurd (let q : ⊥ = omega arith in q)
  on_leave {s} {rs} (p ∷ os) i out cont l z go s' σ G o S =
      let r : EventRow = event 0xEB s.at 0 0 in
      let x = inner d N Q d' (rw i at S.outer) in
      let es = map (tell d N Q d' room fit E) rs in
      let σ' : Scopes = scopes x.c x.cs_rest in
      let e₀ : drop s'.at d' ≡ 0xEB ∷ body (left σ.here σ.outer) es = told d N Q d' room fit E rs r {e = plain 0xEB} refl S in
      let e : drop s'.at d' ≡ 0xEB ∷ body σ' es = rw x.defined_are at e₀ in
      let b = drop_byte d' s'.at e in
      let a = alike_earlier o in
      let f = x.first in
      let t₀ : Point = point 0 f.version f.names f.qnames [] [] [] in
      let t' : State = state_of (past_end_nest t₀ (point_of s')) mode.Content f.elements x.rest in
      let m₁ = half_few (name_is d N) (λ M P. name_is d' M) S.here.names in
      let m₂ = half_few (row_triple d N Q) (row_triple d') S.here.qnames in
      let m₃ = half_few (name_is d N) (λ M P. name_is d' M) x.one.names in
      let m₄ = half_few (row_triple d N Q) (row_triple d') x.one.qnames in
      let n = S.names in
      let q = S.qnames in
      let ev = S.events in
      let o₁ = x.owed_is in
      let o₂ = x.qowed_is in
      let G' : Ghost = record { mine = x.mine; qmine = x.qmine; owed = x.owed; qowed = x.qowed } in
      let T : Sim d N Q d' room fit (machine.returned s (p ∷ os) (s.at + 1)) t' σ' G' (body σ' es) = record {
        here = x.one;
        outer = x.around;
        events = simp length-append (omega arith);
        names = omega arith;
        qnames = omega arith;
        left = b.1;
      } in
      with_event d N Q d' room fit E r (event 0xEB s'.at 0 0)
      (moved (point_of s') s'.mode (S.here.elements ∙ z) x.scopes_are
      (leaves all_open all_nested d' room f.elements x.rest s'.mode t₀ (point_of s') (omega arith) (a.declarations ∙ out) (a.contents ∙ cont) b.0))
      refl refl refl refl (λ M P y. refl) (go t' σ' G' same T)

  -- ---- metadata of the source

  pub on_name : {s : State} {rs : List EventRow} {next : ℕ} (place units : ℕ)
      → Next d N Q d' room fit E (state next (after_metadata s.mode) (scope s.here.version (s.here.names ++ ((length s.names + 1) ∷ [])) s.here.qnames s.here.elements)
      s.outer (s.names ++ (name_row place units ∷ [])) s.qnames s.events) rs → Next d N Q d' room fit E s rs
  on_name {s} place units go s' σ G o S =
      let a : ℕ = length s.names + 1 in
      let n = S.names in
      go s' σ (record { mine = G.mine ++ (a ∷ []); qmine = G.qmine; owed = G.owed; qowed = G.qowed }) (earlier_metadata o)
      (record { here = one_name d N Q d' a S.here; outer = S.outer; events = S.events; names = simp length-append (omega arith); qnames = S.qnames; left = S.left })

  -- the source's row of a qname says the texts of its three names, for which the document has rows
  row_parts : {known mine : List ℕ} (B more : List QnameRow) → ((r : ℕ) → In r known → In r mine) → (u p l : ℕ) → u ≤ length known → p ≤ length known → l ≤ length known
      → Q ≡ (B ++ (qname_row (row_of known u) (row_of known p) (row_of known l) ∷ [])) ++ more → Parts d N Q d' mine (length B + 1)
  unfolding row_triple
  row_parts {known} {mine} B more h u p l i j k e =
      record {
        says = triple (name_text d N (row_of known u)) (name_text d N (row_of known p)) (name_text d N (row_of known l));
        is = rw (add-one (length B), e, at_last B (qname_row (row_of known u) (row_of known p) (row_of known l)) more);
        uri_in = among_row known mine h u i;
        prefix_in = among_row known mine h p j;
        local_in_fact = among_row known mine h l k;
      }

  pub on_qnamedef : {s : State} {rs : List EventRow} {next : ℕ} (u p l : ℕ) (more : List QnameRow) → u ≤ length s.here.names → p ≤ length s.here.names → l ≤ length s.here.names
      → Q ≡ (s.qnames ++ (qname_row (row_of s.here.names u) (row_of s.here.names p) (row_of s.here.names l) ∷ [])) ++ more
      → Next d N Q d' room fit E (state next (after_metadata s.mode) (scope s.here.version s.here.names (s.here.qnames ++ ((length s.qnames + 1) ∷ [])) s.here.elements)
      s.outer s.names (s.qnames ++ (qname_row (row_of s.here.names u) (row_of s.here.names p) (row_of s.here.names l) ∷ [])) s.events) rs
      → Next d N Q d' room fit E s rs
  on_qnamedef {s} u p l more i j k e go s' σ G o S =
      let a : ℕ = length s.qnames + 1 in
      let n = S.qnames in
      go s' σ (record { mine = G.mine; qmine = G.qmine ++ (a ∷ []); owed = G.owed; qowed = G.qowed }) (earlier_metadata o)
      (record {
        here = one_qname d N Q d' a (row_parts s.qnames more S.here.names.held u p l i j k e) S.here;
        outer = S.outer;
        events = S.events;
        names = S.names;
        qnames = simp length-append (omega arith);
        left = S.left;
      })

  pub on_skip : {s : State} {rs : List EventRow} {next : ℕ}
      → Next d N Q d' room fit E (state next (after_metadata s.mode) s.here s.outer s.names s.qnames s.events) rs → Next d N Q d' room fit E s rs
  on_skip go s' σ G o S =
      go s' σ G (earlier_metadata o) (record { here = S.here; outer = S.outer; events = S.events; names = S.names; qnames = S.qnames; left = S.left })

  pub on_flush : {s : State} {rs : List EventRow} {next : ℕ}
      → Next d N Q d' room fit E (state next (after_metadata s.mode) (scope s.here.version [] [] s.here.elements) s.outer s.names s.qnames s.events) rs → Next d N Q d' room fit E s rs
  on_flush go s' σ G o S =
      go s' σ G (earlier_metadata o) (record { here = one_flush d N Q d' S.here; outer = S.outer; events = S.events; names = S.names; qnames = S.qnames; left = S.left })

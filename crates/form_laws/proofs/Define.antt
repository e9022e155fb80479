-- The readings of a source and of its form side by side, and the definitions that the form has before an event. Assumes nothing.
use Prim.Native.Nat.{ℕ, ◌+◌, ◌/◌, ◌≤◌}
use mathlib.Core.Path.{◌≡◌, refl, ◌∙◌, ap}
use mathlib.Core.Bool.{Bool, true, false, cond, ◌||◌}
use mathlib.Core.Option.{some}
use mathlib.Core.List.{List, [], ◌∷◌, ◌++◌, append_assoc}
use native.Mathlib.Numerals.{add-one}
use native.Mathlib.Omega.{arith}
use lib.ListN.{length, get_or, drop, length-append}
use Rattle.sequences.specs.Lists.{same}
use Rattle.token.specs.Tokens.{largest}
use Rattle.modes.specs.Modes.{content, in_attributes, in_declaration, after_metadata}
use Rattle.modes.specs.declared.Mode.{Mode}
use Rattle.scan.specs.declared.Room.{Room}
use Rattle.machine.specs.Machine.{NameRow, QnameRow, name_row, qname_row, State, row_of, name_text}
use Rattle.form.specs.Canonical.{Triple, triple, same_triple, place, absent, fresh, number_of, grown_if, grown, with_units, defined, Scopes, scopes, definition, with_texts, definitions, qname_bytes, qname_definition, with_qname}
use Rattle.form.proofs.Places.{tells_text, tells_triple}
use Rattle.grammar.specs.Grammar.{past_name_def, past_qname_def, a_namedef, namedef, a_qnamedef, qnamedef}
use Rattle.grammar.proofs.Leaves.{number_found}
use Rattle.grammar.proofs.Sound.{point_of}
use Rattle.grammar.proofs.Steps.{state_of, Reach, stay, metadata, ◌⨾◌}
use Rattle.grammar.proofs.Ends.{all_open, all_nested}
use Rattle.form_laws.proofs.Lists.{clash, drop_byte, Has, at_last}
use Rattle.form_laws.proofs.Written.{Fit, number_at_fact, text_at_fact}
use Rattle.form_laws.proofs.Modes.{Alike, alike_same, alike_on, alike_metadata}
use Rattle.form_laws.proofs.Texts.{absent_not, stands, fresh_grown, fresh_keeps}
use Rattle.form_laws.proofs.Scopes.{Onto, onto_same, onto_on, onto_name, onto_qname, name_is, row_triple, Half, half_grows, half_few, half_known, half_at, half_form, Among, empty, text, One, Around, around_grows}

-- metadata may stand here
pub record Metas (m : Mode) : Type 0 where
  pub outside : in_declaration m ≡ false
  pub may : (content m || in_attributes m) ≡ true

pub metas_alike : {m m' : Mode} → Alike m m' → Metas m → Metas m'
metas_alike a h = record { outside = a.declarations ∙ h.outside; may = rw (a.contents, a.listings) h.may }

fresh_absent : (c : List (List ℕ)) (t : List ℕ) → fresh c t ≡ true → absent same c t ≡ true
unfolding fresh
fresh_absent c [] e = clash (cc)
fresh_absent c (x ∷ t) e = e

-- all rows of the source's innermost document, and how many rows those around have to spare
pub record Ghost : Type 0 where
  pub mine : List ℕ
  pub qmine : List ℕ
  pub owed : ℕ
  pub qowed : ℕ

-- rows few enough for their numbers to be spelled
pub record Few (s : State) : Type 0 where
  pub names : length s.names ≤ largest
  pub qnames : length s.qnames ≤ largest

module _ (d : List ℕ) (N : List NameRow) (Q : List QnameRow) (d' : List ℕ) (room : Room) (fit : (r : ℕ) → Fit (name_text d N r)) where
  abbrev pub Walk : State → State → Type 0
  Walk s t = Reach all_open all_nested d' room s t

  -- the source's reading and the form's, where the form's bytes `w` are left; the form has no more rows than the source
  pub record Sim (s s' : State) (σ : Scopes) (G : Ghost) (w : List ℕ) : Type 0 where
    pub here : One d N Q d' s'.names s'.qnames s.here s'.here σ.here G.mine G.qmine
    pub outer : Around d N Q d' s'.names s'.qnames s.outer s'.outer σ.outer G.owed G.qowed
    pub events : length s'.events ≡ length s.events
    pub names : length s'.names + length G.mine + G.owed ≤ length s.names + length σ.here.names
    pub qnames : length s'.qnames + length G.qmine + G.qowed ≤ length s.qnames + length σ.here.qnames
    pub left : drop s'.at d' ≡ w

  pub with_left : {s s' : State} {σ : Scopes} {G : Ghost} {w w' : List ℕ} → Sim s s' σ G w → drop s'.at d' ≡ w' → Sim s s' σ G w'
  with_left S e = record { here = S.here; outer = S.outer; events = S.events; names = S.names; qnames = S.qnames; left = e }

  -- the form has no more rows than the source, and its numbers can be spelled
  pub record Less (s s' : State) : Type 0 where
    pub names : length s'.names ≤ length s.names
    pub qnames : length s'.qnames ≤ length s.qnames
    pub known : length s'.here.names ≤ length s.names
    pub qknown : length s'.here.qnames ≤ length s.qnames

  pub less : {s s' : State} {σ : Scopes} {G : Ghost} {w : List ℕ} → Sim s s' σ G w → Less s s'
  less S =
      let a = half_few (name_is d N) (λ M P. name_is d' M) S.here.names in
      let b = half_few (row_triple d N Q) (row_triple d') S.here.qnames in
      let i = half_known (name_is d N) (λ M P. name_is d' M) S.here.names in
      let j = half_known (row_triple d N Q) (row_triple d') S.here.qnames in
      let k = S.here.names.short in
      let l = S.here.qnames.short in
      let n = S.names in
      let q = S.qnames in
      record { names = omega arith; qnames = omega arith; known = omega arith; qknown = omega arith }

  -- after definitions of the form
  pub record Ready (s s' : State) (σ : Scopes) (G : Ghost) (w : List ℕ) : Type 0 where
    pub to : State
    pub walk : Walk s' to
    pub onto : Onto s'.names s'.qnames to.names to.qnames
    pub quiet : to.events ≡ s'.events
    pub modes : Alike s'.mode to.mode
    pub sim : Sim s to σ G w

  ready_now : {s s' : State} {σ : Scopes} {G : Ghost} {w : List ℕ} → Sim s s' σ G w → Ready s s' σ G w
  ready_now {s' = s'} S =
      record { to = s'; walk = stay all_open all_nested d' room; onto = onto_same s'.names s'.qnames; quiet = refl; modes = alike_same s'.mode; sim = S }

  ready_on : {s s' : State} {σ σ' : Scopes} {G : Ghost} {w w' : List ℕ} (r : Ready s s' σ G w) → Ready s r.to σ' G w' → Ready s s' σ' G w'
  ready_on r q =
      record {
        to = q.to;
        walk = ◌⨾◌ all_open all_nested d' room r.walk q.walk;
        onto = onto_on r.onto q.onto;
        quiet = q.quiet ∙ r.quiet;
        modes = alike_on r.modes q.modes;
        sim = q.sim;
      }

  among_fit : {mine t : List ℕ} → Among d N Q d' mine t → Fit t
  among_fit empty = record { even = omega arith; small = omega arith }
  among_fit (text {t = t} h) =
      let i : some (name_text d N h.row) ≡ some t = h.says in
      let j : name_text d N h.row ≡ t = cc in
      rw j at (fit h.row)

  among_has : {mine : List ℕ} (c : List (List ℕ)) {t : List ℕ} → fresh c t ≡ true → Among d N Q d' mine t → Has (name_is d N) mine t
  unfolding fresh
  among_has c e empty = clash (cc)
  among_has c e (text h) = h

  -- ---- a name

  define_new : {s s' : State} {σ : Scopes} {G : Ghost} {w : List ℕ} (t : List ℕ) → Fit t → Has (name_is d N) G.mine t → absent same σ.here.names t ≡ true
      → Metas s'.mode → Sim s s' σ G (0xF0 ∷ (with_units t ++ w)) → Ready s s' (scopes (defined (σ.here.names ++ (t ∷ [])) σ.here.qnames) σ.outer) G w
  unfolding name_text
  define_new {s} {s'} {σ} {G} {w} t f h a m S =
      let b = drop_byte d' s'.at S.left in
      let x = text_at_fact d' (s'.at + 1) t w f b.1 in
      let A = s'.names in
      let B = s'.qnames in
      let row : NameRow = name_row x.place (length t / 2) in
      let to : State = state_of (past_name_def (point_of s') x.place (length t / 2)) (after_metadata s'.mode) s'.here.elements s'.outer in
      let on = onto_name A B row in
      let new : (M : List NameRow) (P : List QnameRow) → Onto (A ++ (row ∷ [])) B M P → name_is d' M (length A + 1) ≡ some t =
      λ M P y. rw (add-one (length A), y.names_are, at_last A row y.more) (ap some x.is) in
      let one = S.here in
      let n = S.names in
      record {
        to = to;
        walk = metadata all_open all_nested d' room s'.here.elements s'.outer s'.mode m.outside m.may (a_namedef (namedef b.0 x.read));
        onto = on;
        quiet = refl;
        modes = alike_metadata s'.mode;
        sim =
            record {
              here =
                  record {
                    version = one.version;
                    elements = one.elements;
                    names = half_form (name_is d N) (λ M P. name_is d' M) t (length A + 1) on (rw length-append (omega arith)) (absent_not same tells_text σ.here.names t a) h new one.names;
                    qnames = half_grows (row_triple d N Q) (row_triple d') on (omega arith) one.qnames;
                    parts = one.parts;
                  };
              outer = around_grows d N Q d' on S.outer;
              events = S.events;
              names = simp length-append (omega arith);
              qnames = S.qnames;
              left = x.after;
            };
      }

  -- a text that an event needs: it is defined where it is not yet
  pub define : {s s' : State} {σ : Scopes} {G : Ghost} {w : List ℕ} (t : List ℕ) → Among d N Q d' G.mine t → Metas s'.mode
      → Sim s s' σ G (definition σ.here.names t ++ w) → Ready s s' (scopes (defined (grown σ.here.names t) σ.here.qnames) σ.outer) G w
  unfolding definition grown grown_if
  define {s} {s'} {σ} {G} {w} t a m S = go (fresh σ.here.names t) refl S.left
    where
      go : (b : Bool) → fresh σ.here.names t ≡ b → drop s'.at d' ≡ cond b (0xF0 ∷ with_units t) [] ++ w
          → Ready s s' (scopes (defined (cond b (σ.here.names ++ (t ∷ [])) σ.here.names) σ.here.qnames) σ.outer) G w
      go true e l = define_new t (among_fit a) (among_has σ.here.names e a) (fresh_absent σ.here.names t e) m (with_left S l)
      go false e l = ready_now (with_left S l)

  -- ---- a name's number

  pub record Named (A : List NameRow) (B : List QnameRow) (known : List ℕ) (n : ℕ) (t : List ℕ) : Type 0 where
    pub low : n ≤ length known
    pub says : (M : List NameRow) (P : List QnameRow) → Onto A B M P → name_text d' M (row_of known n) ≡ t

  pub named_by : {A : List NameRow} {B : List QnameRow} {size : ℕ} {known known' mine : List ℕ} {c : List (List ℕ)}
      → Half (name_is d N) (λ M P. name_is d' M) A B size known known' c mine → (t : List ℕ) → fresh c t ≡ false → Named A B known' (number_of c t) t
  unfolding fresh number_of name_text
  named_by h [] e = record { low = omega arith; says = λ M P y. refl }
  named_by {known' = known'} {c = c} h (b ∷ t) e =
      let x = stands same tells_text c (b ∷ t) e in
      let y = half_at (name_is d N) (λ M P. name_is d' M) h (place same c (b ∷ t)) x.1 in
      record { low = omega (arith, y.0); says = λ M P z. let i = y.1 M P z in (let j : name_text d' M (get_or known' (place same c (b ∷ t)) 0) ≡ b ∷ t = cc in j) }

  -- ---- a qname, whose texts are defined

  triple_is : {a b c : List ℕ} {q : Triple} → a ≡ q.uri → b ≡ q.prefix → c ≡ q.local → some (triple a b c) ≡ some q
  triple_is i j k = rw (i, j, k)

  define_qname : {s s' : State} {σ : Scopes} {G : Ghost} {w : List ℕ} (q : Triple) → Few s → fresh σ.here.names q.uri ≡ false → fresh σ.here.names q.prefix ≡ false
      → fresh σ.here.names q.local ≡ false → Has (row_triple d N Q) G.qmine q → absent same_triple σ.here.qnames q ≡ true → Metas s'.mode
      → Sim s s' σ G (qname_bytes σ.here.names q ++ w) → Ready s s' (scopes (defined σ.here.names (σ.here.qnames ++ (q ∷ []))) σ.outer) G w
  unfolding qname_bytes row_triple
  define_qname {s} {s'} {σ} {G} {w} q few u p l h a m S =
      let one = S.here in
      let A = s'.names in
      let B = s'.qnames in
      let c = σ.here.names in
      let ls = less S in
      let nu = named_by one.names q.uri u in
      let np = named_by one.names q.prefix p in
      let nl = named_by one.names q.local l in
      let b = drop_byte d' s'.at S.left in
      let x = number_at_fact d' 5 (s'.at + 1) (number_of c q.uri) _ (omega arith) (omega (arith, nu.low, ls.known, few.names)) (simp append_assoc at b.1) in
      let y = number_at_fact d' 5 x.next (number_of c q.prefix) _ (omega arith) (omega (arith, np.low, ls.known, few.names)) x.after in
      let z = number_at_fact d' 5 y.next (number_of c q.local) _ (omega arith) (omega (arith, nl.low, ls.known, few.names)) y.after in
      let known = s'.here.names in
      let row : QnameRow = qname_row (row_of known (number_of c q.uri)) (row_of known (number_of c q.prefix)) (row_of known (number_of c q.local)) in
      let to : State = state_of (past_qname_def (point_of s') (number_of c q.uri) (number_of c q.prefix) (number_of c q.local) z.next) (after_metadata s'.mode) s'.here.elements s'.outer in
      let on = onto_qname A B row in
      let new : (M : List NameRow) (P : List QnameRow) → Onto A (B ++ (row ∷ [])) M P → row_triple d' M P (length B + 1) ≡ some q =
      λ M P o.
      let k = onto_on on o in
      rw (add-one (length B), o.qnames_are, at_last B row o.qmore) (triple_is (nu.says M P k) (np.says M P k) (nl.says M P k)) in
      let n = S.qnames in
      record {
        to = to;
        walk =
            metadata all_open all_nested d' room s'.here.elements s'.outer s'.mode m.outside m.may
            (a_qnamedef
            (qnamedef b.0 (record { mb32 = number_found d' 5 _ x.read; defined = nu.low }) (record { mb32 = number_found d' 5 _ y.read; defined = np.low })
            (record { mb32 = number_found d' 5 _ z.read; defined = nl.low })));
        onto = on;
        quiet = refl;
        modes = alike_metadata s'.mode;
        sim =
            record {
              here =
                  record {
                    version = one.version;
                    elements = one.elements;
                    names = half_grows (name_is d N) (λ M P. name_is d' M) on (omega arith) one.names;
                    qnames = half_form (row_triple d N Q) (row_triple d') q (length B + 1) on (rw length-append (omega arith)) (absent_not same_triple tells_triple σ.here.qnames q a) h new one.qnames;
                    parts = one.parts;
                  };
              outer = around_grows d N Q d' on S.outer;
              events = S.events;
              names = S.names;
              qnames = simp length-append (omega arith);
              left = z.after;
            };
      }

  -- a qname that an event needs: its texts and itself are defined where they are not yet
  pub define_all : {s s' : State} {σ : Scopes} {G : Ghost} {w : List ℕ} (q : Triple) → Few s → Among d N Q d' G.mine q.uri → Among d N Q d' G.mine q.prefix
      → Among d N Q d' G.mine q.local → Has (row_triple d N Q) G.qmine q → Metas s'.mode
      → Sim s s' σ G (qname_definition σ.here q ++ w) → Ready s s' (scopes (with_qname σ.here q) σ.outer) G w
  unfolding qname_definition with_qname definitions with_texts
  define_all {s} {s'} {σ} {G} {w} q few u p l h m S = go (absent same_triple σ.here.qnames q) refl S.left
    where
      c : List (List ℕ)
      c = σ.here.names

      cu : List (List ℕ)
      cu = grown c q.uri

      cp : List (List ℕ)
      cp = grown cu q.prefix

      cl : List (List ℕ)
      cl = grown cp q.local

      go : (b : Bool) → absent same_triple σ.here.qnames q ≡ b
          → drop s'.at d' ≡ cond b ((definition c q.uri ++ (definition cu q.prefix ++ definition cp q.local)) ++ qname_bytes cl q) [] ++ w
          → Ready s s' (scopes (cond b (defined cl (σ.here.qnames ++ (q ∷ []))) σ.here) σ.outer) G w
      go true e left =
          let i : drop s'.at d' ≡ definition c q.uri ++ (definition cu q.prefix ++ (definition cp q.local ++ (qname_bytes cl q ++ w))) = left ∙ simp append_assoc in
          let r₁ = define q.uri u m (with_left S i) in
          let m₁ = metas_alike r₁.modes m in
          let r₂ = define q.prefix p m₁ r₁.sim in
          let m₂ = metas_alike r₂.modes m₁ in
          let r₃ = define q.local l m₂ r₂.sim in
          let m₃ = metas_alike r₃.modes m₂ in
          let r₄ =
          define_qname q few (fresh_keeps cp q.local q.uri (fresh_keeps cu q.prefix q.uri (fresh_grown c q.uri)))
          (fresh_keeps cp q.local q.prefix (fresh_grown cu q.prefix)) (fresh_grown cp q.local) h e m₃ r₃.sim in
          ready_on r₁ (ready_on r₂ (ready_on r₃ r₄))
      go false e left = ready_now (with_left S left)

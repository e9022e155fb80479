-- Demand 2, second sentence, of the job: what rewriting has written is the form; it is read back with the same events and version, and
-- rewritten to the same bytes. Assumes nothing.
use Prim.Native.Nat.{ℕ, ◌≤◌}
use mathlib.Core.Path.{◌≡◌, refl, sym, ◌∙◌, ap, subst}
use mathlib.Core.Logic.{◌↔◌}
use mathlib.Core.Bool.{Bool, true, false, cond}
use mathlib.Core.List.{List}
use native.Mathlib.Omega.{arith}
use lib.Dec.{ltb, eqb}
use lib.ListN.{length, take, drop}
use lib.Seq.{take_at}
use borrow.Author.Tests.{eqb-true, ltb-false}
use Rattle.sequences.proofs.Tests.{tests}
use Rattle.token.specs.Tokens.{accepted, no_room, form_too_long, longest}
use Rattle.scan.specs.declared.Room.{Room}
use Rattle.machine.specs.Machine.{Result, reading, room_in}
use Rattle.form_laws.specs.Forms.{events_read, form_read, Formed, ReadsAgain, Holds, ReadAlike}
use Rattle.form_laws.proofs.Rewriting.{read_again, same_forms, held, read_any}
use Rattle.rewriter_contract.specs.declared.Answer.{Answer}
use Rattle.rewriter_contract.specs.Contract.{answer, form_of, form_judged, rewrite_answer, output_of, Rewrites}

-- 0 means that the form is not too long and has room
record Went (form : List ℕ) (room : ℕ) (a : Answer) : Type 0 where
  short : length form ≤ longest
  fits : length form ≤ room
  length_is : a.length ≡ length form

judged_went : (place : ℕ) (form : List ℕ) (room : ℕ) → (form_judged place form room).number ≡ accepted → Went form room (form_judged place form room)
unfolding form_judged
judged_went place form room e = go (ltb longest (length form)) refl (ltb room (length form)) refl e
  where
    go : (s : Bool) → ltb longest (length form) ≡ s → (t : Bool) → ltb room (length form) ≡ t
        → (cond s (answer form_too_long (length form) 0) (cond t (answer no_room (length form) 0) (answer accepted place (length form)))).number ≡ 0
        → Went form room (cond s (answer form_too_long (length form) 0) (cond t (answer no_room (length form) 0) (answer accepted place (length form))))
    go true h t k f = absurd (let q : ⊥ = omega arith in q)
    go false h true k f = absurd (let q : ⊥ = omega arith in q)
    go false h false k f = record { short = ltb-false _ _ h; fits = ltb-false _ _ k; length_is = refl }

answer_went : (doc : List ℕ) (r : Result) (room : ℕ) → (rewrite_answer doc r room).number ≡ accepted → (r.number ≡ accepted) × Went (form_of doc r) room (rewrite_answer doc r room)
unfolding rewrite_answer
answer_went doc r room e = go (eqb r.number accepted) refl e
  where
    go : (t : Bool) → eqb r.number accepted ≡ t → (cond t (form_judged r.place (form_of doc r) room) (answer r.number r.place 0)).number ≡ 0
        → (r.number ≡ accepted) × Went (form_of doc r) room (cond t (form_judged r.place (form_of doc r) room) (answer r.number r.place 0))
    go true h f = (eqb-true _ _ h, judged_went r.place (form_of doc r) room f)
    go false h f = absurd (let i = rw f at h in let z : ◌≡◌ {A = ℕ} 0 1 = cc in let q : ⊥ = omega arith in q)

went_answer : (doc : List ℕ) (r : Result) (room : ℕ) → r.number ≡ accepted → length (form_of doc r) ≤ longest → length (form_of doc r) ≤ room
    → (rewrite_answer doc r room).number ≡ accepted
unfolding rewrite_answer form_judged form_of
went_answer doc r room e s t = rw e (simp (tests, s, t))

-- the job's form is the form
job_form : (doc : List ℕ) (room : Room) → form_of doc (reading doc room) ≡ form_read doc room
unfolding form_of
job_form doc room = refl

-- the room of lent tables
abbrev room_of : List ℕ → List ℕ → List ℕ → Room
room_of n q v = room_in (length n) (length q) (length v)

module _ {doc n q v out n' q' v' out' : List ℕ} {a : Answer} (x : Rewrites doc (reading doc (room_of n q v)) n q v out n' q' v' out' a) (ok : a.number ≡ accepted) where
  answered : (rewrite_answer doc (reading doc (room_of n q v)) (length out)).number ≡ accepted
  answered = ap (λ (b : Answer). b.number) (sym x.answer_is) ∙ ok

  went : ((reading doc (room_of n q v)).number ≡ accepted) × Went (form_of doc (reading doc (room_of n q v))) (length out) a
  went =
      subst (λ (b : Answer). ((reading doc (room_of n q v)).number ≡ accepted) × Went (form_of doc (reading doc (room_of n q v))) (length out) b) (sym x.answer_is)
      (answer_went doc (reading doc (room_of n q v)) (length out) answered)

  -- the document is accepted, and its form not refused for size
  pub formed : Formed doc (room_of n q v)
  formed = record { number_is = went.0; not_long = rw (sym (job_form doc (room_of n q v))) went.1.short }

  front_is : take a.length out' ≡ form_read doc (room_of n q v)
  unfolding output_of
  front_is =
      let f = form_of doc (reading doc (room_of n q v)) in
      rw (x.output_is, answered, went.1.length_is) (take_at f (drop (length f) out) (length f) refl ∙ job_form doc (room_of n q v))

  -- under 0 the front of the output is the form
  pub written : take a.length out' ≡ form_read doc (room_of n q v)
  written = front_is

  form_length : a.length ≡ length (form_read doc (room_of n q v))
  form_length = went.1.length_is ∙ ap length (job_form doc (room_of n q v))

  again_read : ReadsAgain doc (room_of n q v)
  again_read = read_again doc (room_of n q v) (omega arith) (omega arith) formed

  -- the tables that the document was read into hold the rows of what was written
  pub back_held : Holds (room_of n q v) (reading (take a.length out') (room_of n q v)).final
  back_held = rw front_is (held (form_read doc (room_of n q v)) (room_of n q v) again_read.number_is)

  -- demand 2: read back, with the same tables or any that hold its rows, it gives the same events and outer version
  pub read_back : (more : Room) → Holds more (reading (take a.length out') (room_of n q v)).final → ReadAlike doc (room_of n q v) (take a.length out') more
  read_back more h =
      let f = form_read doc (room_of n q v) in
      let r = again_read in
      let s : ReadAlike f (room_of n q v) f more = read_any f (room_of n q v) more r.number_is (rw front_is at h) in
      rw front_is (record { number_is = s.number_is; version_is = s.version_is ∙ r.version_is; events_are = s.events_are ∙ r.events_are })

  -- the form of what was written, read with these tables
  form_back : (more : Room) → Holds more (reading (take a.length out') (room_of n q v)).final
      → form_of (take a.length out') (reading (take a.length out') more) ≡ take a.length out'
  form_back more h =
      let r = read_back more h in
      let same : form_read (take a.length out') more ≡ form_read doc (room_of n q v) = rw (r.version_is, r.events_are) in
      job_form (take a.length out') more ∙ same ∙ sym front_is

-- demand 2: rewritten again, with any tables that hold its rows and an output that holds it, it gives the same bytes
pub again : {doc n q v out n' q' v' out' m p w more m' p' w' more' : List ℕ} {a b : Answer}
    → Rewrites doc (reading doc (room_of n q v)) n q v out n' q' v' out' a → a.number ≡ accepted
    → Rewrites (take a.length out') (reading (take a.length out') (room_of m p w)) m p w more m' p' w' more' b
    → Holds (room_of m p w) (reading (take a.length out') (room_of n q v)).final → a.length ≤ length more
    → (b.number ≡ accepted) × (b.length ≡ a.length) × (take b.length more' ≡ take a.length out')
again {doc} {n} {q} {v} {out' = out'} {m = m} {p = p} {w = w} {more = more} {a = a} {b = b} x ok y h fits =
    let F = take a.length out' in
    let e = form_back x ok (room_of m p w) h in
    let l : length F ≡ a.length = ap length (front_is x ok) ∙ sym (form_length x ok) in
    let s : length F ≤ longest = rw (front_is x ok) (formed x ok).not_long in
    let k : b.number ≡ accepted =
    ap (λ (c : Answer). c.number) y.answer_is
    ∙ went_answer F (reading F (room_of m p w)) (length more) (read_back x ok (room_of m p w) h).number_is (rw e s) (rw e (omega (arith, l, fits))) in
    let f : form_read F (room_of m p w) ≡ F = sym (job_form F (room_of m p w)) ∙ e in
    (k, form_length y k ∙ ap length f ∙ l, front_is y k ∙ f)

-- what two rewritings have written is equal exactly where the events and the outer versions are
pub forms_exactly : {d n q v out n' q' v' out' e m p w more m' p' w' more' : List ℕ} {a b : Answer}
    → Rewrites d (reading d (room_of n q v)) n q v out n' q' v' out' a → a.number ≡ accepted
    → Rewrites e (reading e (room_of m p w)) m p w more m' p' w' more' b → b.number ≡ accepted
    → (take a.length out' ≡ take b.length more')
    ↔ ((events_read d (room_of n q v) ≡ events_read e (room_of m p w)) × ((reading d (room_of n q v)).version ≡ (reading e (room_of m p w)).version))
forms_exactly {d} {n} {q} {v} {e = e} {m = m} {p = p} {w = w} x ok y ok' =
    rw (front_is x ok, front_is y ok')
    (same_forms d e (room_of n q v) (room_of m p w) (omega arith) (omega arith) (omega arith) (omega arith) (formed x ok) (formed y ok'))

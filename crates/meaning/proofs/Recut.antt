-- How texts are cut does not count (01, "Meaning and canonical form"). Assumes nothing.
use Prim.Native.Nat.{ℕ, zero, suc}
use mathlib.Core.Path.{◌≡◌, refl, sym, ap, ◌∙◌}
use mathlib.Core.Bool.{Bool, true, false, cond}
use mathlib.Core.Option.{some}
use mathlib.Core.List.{List, [], ◌∷◌, ◌++◌, map, append_assoc}
use Rattle.sequences.specs.Lists.{units_of}
use Rattle.machine.specs.Machine.{Event, texted, valued}
use Rattle.plan.specs.Text.{text_of}
use Rattle.meaning.specs.Meaning.{Symbol, unit, OpenAttribute, none_open, counted, skipped, unless, symbols_of, attribute_after, begins, inside, depth_after, onto, new_if, rest, pieces, meanings, ValueRun, no_value, one_value, ChunkRun, no_chunk, one_chunk, Recut, no_event, same_event, values, chunks}

map_append : (us vs : List ℕ) → map unit (us ++ vs) ≡ map unit us ++ map unit vs
map_append [] vs = refl
map_append (u ∷ us) vs = ap (λ (l : List Symbol). unit u ∷ l) (map_append us vs)

onto_onto : (a b : List Symbol) (ps : List (List Symbol)) → onto a (onto b ps) ≡ onto (a ++ b) ps
onto_onto a b [] = refl
onto_onto a b (p ∷ ps) = ap (λ (l : List Symbol). l ∷ ps) (sym (append_assoc a b p))

-- there is a first piece, so no symbols before it change nothing
pieces_kept : (depth : ℕ) (q : OpenAttribute) (es : List Event) → onto [] (pieces depth q es) ≡ pieces depth q es
unfolding pieces
pieces_kept depth q [] = refl
pieces_kept depth q (e ∷ es) =
    go (begins depth e) (cond (inside depth e) (symbols_of q e) []) (pieces (depth_after depth e) (attribute_after q e) es)
  where
    go : (t : Bool) (l : List Symbol) (ps : List (List Symbol)) → onto [] (new_if t (onto l ps)) ≡ new_if t (onto l ps)
    go true l ps = refl
    go false l ps = onto_onto [] l ps

-- what units of text add at a depth
abbrev added : ℕ → List Symbol → List Symbol
added zero l = []
added (suc depth) l = l

value_adds : (depth : ℕ) (q : OpenAttribute) (token : ℕ) (payload units : List ℕ) (es : List Event) → text_of token payload ≡ some units
    → pieces depth q (valued token payload ∷ es) ≡ onto (added depth (unless q (map unit units))) (pieces depth q es)
unfolding pieces depth_after
value_adds zero q token payload units es e = refl
value_adds (suc depth) q token payload units es e = rw e

joins : (depth : ℕ) (q : OpenAttribute) (us vs : List ℕ)
    → added depth (unless q (map unit us)) ++ added depth (unless q (map unit vs)) ≡ added depth (unless q (map unit (us ++ vs)))
joins zero q us vs = refl
joins (suc depth) none_open us vs = sym (map_append us vs)
joins (suc depth) counted us vs = sym (map_append us vs)
joins (suc depth) skipped us vs = refl

nothing : (depth : ℕ) (q : OpenAttribute) → added depth (unless q []) ≡ []
nothing zero q = refl
nothing (suc depth) none_open = refl
nothing (suc depth) counted = refl
nothing (suc depth) skipped = refl

-- a run of values adds its joined text
run_adds : (depth : ℕ) (q : OpenAttribute) {us : List Event} {joined : List ℕ} (es : List Event) → ValueRun us joined
    → pieces depth q (us ++ es) ≡ onto (added depth (unless q (map unit joined))) (pieces depth q es)
run_adds depth q es no_value = rw (nothing depth q) (sym (pieces_kept depth q es))
run_adds depth q es (one_value {token} {payload} {units} {es = us} {joined} e r) =
    value_adds depth q token payload units (us ++ es) e
    ∙ ap (onto (added depth (unless q (map unit units)))) (run_adds depth q es r)
    ∙ onto_onto (added depth (unless q (map unit units))) (added depth (unless q (map unit joined))) (pieces depth q es)
    ∙ ap (λ (l : List Symbol). onto l (pieces depth q es)) (joins depth q units joined)

chunk_adds : (depth : ℕ) (q : OpenAttribute) (text : List ℕ) (es : List Event)
    → pieces depth q (texted 0xF2 text ∷ es) ≡ onto (added depth (map unit (units_of text))) (pieces depth q es)
unfolding pieces depth_after
chunk_adds zero q text es = refl
chunk_adds (suc depth) q text es = refl

-- a run of CDATA chunks adds its joined text, also where an attribute is open
chunks_add : (depth : ℕ) (q : OpenAttribute) {us : List Event} {joined : List ℕ} (es : List Event) → ChunkRun us joined
    → pieces depth q (us ++ es) ≡ onto (added depth (map unit joined)) (pieces depth q es)
chunks_add depth q es no_chunk = rw (nothing depth none_open) (sym (pieces_kept depth q es))
chunks_add depth q es (one_chunk {text} {es = us} {joined} r) =
    chunk_adds depth q text (us ++ es)
    ∙ ap (onto (added depth (map unit (units_of text)))) (chunks_add depth q es r)
    ∙ onto_onto (added depth (map unit (units_of text))) (added depth (map unit joined)) (pieces depth q es)
    ∙ ap (λ (l : List Symbol). onto l (pieces depth q es)) (joins depth none_open (units_of text) joined)

event_adds : (depth : ℕ) (q : OpenAttribute) (e : Event) (es fs : List Event)
    → pieces (depth_after depth e) (attribute_after q e) es ≡ pieces (depth_after depth e) (attribute_after q e) fs → pieces depth q (e ∷ es) ≡ pieces depth q (e ∷ fs)
unfolding pieces
event_adds depth q e es fs h = ap (λ (ps : List (List Symbol)). new_if (begins depth e) (onto (cond (inside depth e) (symbols_of q e) []) ps)) h

recut_pieces : (depth : ℕ) (q : OpenAttribute) {es fs : List Event} → Recut es fs → pieces depth q es ≡ pieces depth q fs
recut_pieces depth q no_event = refl
recut_pieces depth q (same_event e {es} {fs} r) = event_adds depth q e es fs (recut_pieces (depth_after depth e) (attribute_after q e) r)
recut_pieces depth q (values {us} {vs} {es} {fs} {joined} a b r) =
    run_adds depth q es a ∙ ap (onto (added depth (unless q (map unit joined)))) (recut_pieces depth q r) ∙ sym (run_adds depth q fs b)
recut_pieces depth q (chunks {us} {vs} {es} {fs} {joined} a b r) =
    chunks_add depth q es a ∙ ap (onto (added depth (map unit joined))) (recut_pieces depth q r) ∙ sym (chunks_add depth q fs b)

-- texts cut otherwise give the same records with the same meanings
pub recut_meanings : {es fs : List Event} → Recut es fs → meanings es ≡ meanings fs
unfolding meanings
recut_meanings r = ap rest (recut_pieces 0 none_open r)

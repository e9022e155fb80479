-- Serves the code. What a row of events does to the walk's numbers and to the arrays.
use Rattle.std.specs.Prelude.{ℕ, ◌≡◌, cond, List, [], ◌∷◌, eqb}
use Rattle.hash.specs.Hash.{hash_from, seed}
use Rattle.symbols.specs.declared.Cursor.{Cursor}
use Rattle.render_elements.specs.declared.Progress.{Progress}
use Rattle.symbols.specs.Store.{NumbersPut}
use Rattle.render_elements.specs.Codes.{row_by, begins_by, depth_by, attribute_by}

abbrev pub moved_to : Progress → Cursor → Progress
moved_to p i = record { cursor = i; records = p.records; depth = p.depth; attribute = p.attribute }

-- where no element is open a record begins: its first place and the hash of what came before are stored
pub record Begun (starts hashes : List ℕ) (p : Progress) (starts' hashes' : List ℕ) (r : Progress) : Type 0 where
  pub starts_are : NumbersPut starts p.records (cond (eqb p.depth 0) (p.cursor.at ∷ []) []) starts' r.records
  pub hashes_are : NumbersPut hashes p.records (cond (eqb p.depth 0) (p.cursor.hash ∷ []) []) hashes' r.records
  pub at_is : r.cursor.at ≡ p.cursor.at
  pub hash_is : r.cursor.hash ≡ cond (eqb p.depth 0) seed p.cursor.hash
  pub depth_is : r.depth ≡ p.depth
  pub attribute_is : r.attribute ≡ p.attribute

-- the numbers of a row are written; the open attribute and the elements open after it
pub record RowPut (row : List ℕ) (attribute depth : ℕ) (before : List ℕ) (p : Progress) (after : List ℕ) (r : Progress) : Type 0 where
  pub put : NumbersPut before p.cursor.at row after r.cursor.at
  pub hash_is : r.cursor.hash ≡ hash_from p.cursor.hash row
  pub records_are : r.records ≡ p.records
  pub depth_is : r.depth ≡ depth
  pub attribute_is : r.attribute ≡ attribute

-- what a row does to the arrays and the walk's numbers
pub record RowDone (doc marks : List ℕ) (token a b : ℕ) (syms starts hashes : List ℕ) (p : Progress) (syms' starts' hashes' : List ℕ) (r : Progress) : Type 0 where
  pub symbols : NumbersPut syms p.cursor.at (row_by doc marks p.depth p.attribute token a b) syms' r.cursor.at
  pub starts_are : NumbersPut starts p.records (cond (begins_by p.depth token) (p.cursor.at ∷ []) []) starts' r.records
  pub hashes_are : NumbersPut hashes p.records (cond (begins_by p.depth token) (p.cursor.hash ∷ []) []) hashes' r.records
  pub depth_is : r.depth ≡ depth_by p.depth token
  pub attribute_is : r.attribute ≡ attribute_by marks p.attribute token a
  pub hash_is : r.cursor.hash ≡ hash_from (cond (begins_by p.depth token) seed p.cursor.hash) (row_by doc marks p.depth p.attribute token a b)

-- What a token's rule says of a payload of its kind, row by row of the list of kinds. Assumes nothing.
use Prim.Native.Nat.{ℕ, ◌-◌, ◌%◌, ◌≤◌}
use mathlib.Core.Path.{◌≡◌, refl, sym, subst}
use mathlib.Core.Bool.{Bool, true, false, ◌&&◌, ◌||◌}
use mathlib.Core.Logic.{◌⊎◌, inl, inr, ⊎_elim}
use mathlib.Core.List.{List, [], ◌∷◌, map}
use native.Mathlib.Omega.{arith}
use lib.ListN.{length, get_or}
use lib.Dec.{eqb, leb, lit≤}
use borrow.Author.Tests.{eqb-true, eqb-false, leb-true, ne_eqb}
use Rattle.sequences.proofs.Tests.{and_left, and_right, cond_if}
use Rattle.token.specs.Tokens.{shape_of}
use Rattle.rules.specs.Rules.{decimal_size, decimal_lawful, lawful}
use Rattle.chunks.specs.Chunks.{word_size}
use Rattle.plan.specs.declared.Kind.{Kind}
use Rattle.plan.specs.declared.Kind.TheVariants.{Unshown, Same, Signed, Unsigned, Truth, Decimal, Hex, Base64}
use Rattle.plan.specs.Text.{kinds, kind_in, kind_of}
use Rattle.plan.specs.Plans.{Ruled}

-- what `cc` finds where two constructors are said to be equal
pub never : {A : Type 0} → ◌≡◌ {A = ℕ} 0 1 → A
never z = absurd (let q : ⊥ = omega arith in q)

-- a fact of each row
abbrev pub Each : (ℕ → Kind → Type 0) → List (ℕ × Kind) → Type 0
Each P [] = Unit
Each P (row ∷ rows) = P row.0 row.1 × Each P rows

-- what holds of each row's kind, where the token is the row's, and of a token that is not listed, holds of the token's kind
pub of_kind : (P : Kind → Type 0) (token : ℕ) (rows : List (ℕ × Kind)) → Each (λ code kind. token ≡ code → P kind) rows → P Unshown
    → P (kind_in token rows)
of_kind P token [] each other = other
of_kind P token (row ∷ rows) each other =
    cond_if P (eqb token row.0) row.1 (kind_in token rows) (λ t. each.0 (eqb-true _ _ t)) (λ f. of_kind P token rows each.1 other)

-- what is known of a token past all rows
abbrev pub PastRows : ℕ → Type 0 → List (ℕ × Kind) → Type 0
PastRows token T [] = T
PastRows token T (row ∷ rows) = PastRows token (T × (token ≡ row.0 → ⊥)) rows

past_rows : (token : ℕ) (T : Type 0) (rows : List (ℕ × Kind)) → PastRows token T rows → T × (kind_in token rows ≡ Unshown)
past_rows token T [] h = (h, refl)
past_rows token T (row ∷ rows) h =
    let i = past_rows token (T × (token ≡ row.0 → ⊥)) rows h in
    (i.0.0, rw (ne_eqb token row.0 i.0.1) i.1)

-- a token that is not listed has no text
pub unlisted : (token : ℕ) → PastRows token (Unit {0}) kinds → Unshown ≡ kind_of token
unfolding kind_of
unlisted token h = sym (past_rows token (Unit {0}) kinds h).1

-- one of these codes
abbrev pub OneOf : ℕ → List ℕ → Type 0
OneOf token [] = ⊥
OneOf token (code ∷ codes) = (token ≡ code → ⊥) → OneOf token codes

-- a token that is one of some codes of a kind is of this kind
by_code : (kind : Kind) (token code : ℕ) → kind ≡ kind_of code → ((token ≡ code → ⊥) → kind ≡ kind_of token) → kind ≡ kind_of token
by_code kind token code e other = go (eqb token code) refl where
  go : (t : Bool) → eqb token code ≡ t → kind ≡ kind_of token
  go true q = rw (eqb-true token code q) e
  go false q = other (eqb-false token code q)

one_of : (kind : Kind) (token : ℕ) (codes : List ℕ) → map (λ code. kind) codes ≡ map kind_of codes → OneOf token codes → kind ≡ kind_of token
one_of kind token [] e h = absurd h
one_of kind token (code ∷ codes) e h =
    by_code kind token code (cc) (λ n. one_of kind token codes (cc) (h n))

-- the codes of each kind
module _ (token : ℕ) where
  pub signed_codes : OneOf token (0x01 ∷ 0x02 ∷ 0x08 ∷ 0x88 ∷ []) → Signed 0 ≡ kind_of token
  unfolding kind_of
  signed_codes = one_of (Signed 0) token (0x01 ∷ 0x02 ∷ 0x08 ∷ 0x88 ∷ []) refl

  pub money_codes : OneOf token (0x05 ∷ 0x14 ∷ []) → Signed 4 ≡ kind_of token
  unfolding kind_of
  money_codes = one_of (Signed 4) token (0x05 ∷ 0x14 ∷ []) refl

  pub unsigned_codes : OneOf token (0x06 ∷ 0x07 ∷ 0x89 ∷ 0x8A ∷ 0x8B ∷ []) → Unsigned ≡ kind_of token
  unfolding kind_of
  unsigned_codes = one_of Unsigned token (0x06 ∷ 0x07 ∷ 0x89 ∷ 0x8A ∷ 0x8B ∷ []) refl

  pub decimal_codes : OneOf token (0x0A ∷ 0x0B ∷ 0x87 ∷ []) → Decimal ≡ kind_of token
  unfolding kind_of
  decimal_codes = one_of Decimal token (0x0A ∷ 0x0B ∷ 0x87 ∷ []) refl

  pub base64_codes : OneOf token (0x0C ∷ 0x0F ∷ 0x17 ∷ 0x1B ∷ 0x85 ∷ []) → Base64 ≡ kind_of token
  unfolding kind_of
  base64_codes = one_of Base64 token (0x0C ∷ 0x0F ∷ 0x17 ∷ 0x1B ∷ 0x85 ∷ []) refl

  pub same_codes : OneOf token (0x0E ∷ 0x11 ∷ 0x18 ∷ []) → Same ≡ kind_of token
  unfolding kind_of
  same_codes = one_of Same token (0x0E ∷ 0x11 ∷ 0x18 ∷ []) refl

  pub hex_codes : OneOf token (0x84 ∷ []) → Hex ≡ kind_of token
  unfolding kind_of
  hex_codes = one_of Hex token (0x84 ∷ []) refl

  pub truth_codes : OneOf token (0x86 ∷ []) → Truth ≡ kind_of token
  unfolding kind_of
  truth_codes = one_of Truth token (0x86 ∷ []) refl

-- a payload of a fixed size
unsigned_rule : (p : List ℕ) (size : ℕ) → word_size size ≡ true → eqb (length p) size ≡ true → Ruled Unsigned p
unsigned_rule p size w e = rw (eqb-true (length p) size e) w

signed_rule : (p : List ℕ) (size scale : ℕ) → word_size size ≡ true → scale ≤ 38 → eqb (length p) size ≡ true → Ruled (Signed scale) p
signed_rule p size scale w c e = (unsigned_rule p size w e, c)

module _ (token : ℕ) (p : List ℕ) (h : lawful (shape_of token) p ≡ true) where
  at : {code : ℕ} → token ≡ code → lawful (shape_of code) p ≡ true
  at e = subst (λ (code : ℕ). lawful (shape_of code) p ≡ true) e h

  -- what the rule of a token says of a payload of its kind
  pub ruled : Ruled (kind_of token) p
  unfolding kind_of shape_of lawful word_size
  ruled =
      of_kind (λ (kind : Kind). Ruled kind p) token kinds (
        (λ e. signed_rule p 2 0 refl (lit≤ tt) (at e)),
        (
          (λ e. signed_rule p 4 0 refl (lit≤ tt) (at e)),
          (
            (λ e. signed_rule p 8 4 refl (lit≤ tt) (at e)),
            (
              (λ e. unsigned_rule p 1 refl (at e)),
              (
                (λ e. unsigned_rule p 1 refl (at e)),
                (
                  (λ e. signed_rule p 8 0 refl (lit≤ tt) (at e)),
                  (
                    (λ e. at e),
                    (
                      (λ e. at e),
                      (
                        (λ e. tt),
                        (
                          (λ e. eqb-true _ _ (at e)),
                          (
                            (λ e. tt),
                            (
                              (λ e. eqb-true _ _ (at e)),
                              (
                                (λ e. signed_rule p 4 4 refl (lit≤ tt) (at e)),
                                (
                                  (λ e. tt),
                                  (
                                    (λ e. eqb-true _ _ (at e)),
                                    (
                                      (λ e. tt),
                                      (
                                        (λ e. tt),
                                        (
                                          (λ e. tt),
                                          (
                                            (λ e. eqb-true _ _ (at e)),
                                            (
                                              (λ e. at e),
                                              (
                                                (λ e. signed_rule p 1 0 refl (lit≤ tt) (at e)),
                                                (
                                                  (λ e. unsigned_rule p 2 refl (at e)),
                                                  (
                                                    (λ e. unsigned_rule p 4 refl (at e)),
                                                    (
                                                      (λ e. unsigned_rule p 8 refl (at e)),
                                                      tt,
                                                    ),
                                                  ),
                                                ),
                                              ),
                                            ),
                                          ),
                                        ),
                                      ),
                                    ),
                                  ),
                                ),
                              ),
                            ),
                          ),
                        ),
                      ),
                    ),
                  ),
                ),
              ),
            ),
          ),
        ),
      )
      tt

-- ---- a decimal's payload

either : (a b : Bool) → (a || b) ≡ true → (a ≡ true) ⊎ (b ≡ true)
either true b e = inl refl
either false b e = inr e

sizes : (n : ℕ) → decimal_size n ≡ true → (7 ≤ n) × (n ≤ 19) × ((n - 3) % 4 ≡ 0)
unfolding decimal_size
sizes n h =
    ⊎_elim (λ h2.
    ⊎_elim (λ h1.
    ⊎_elim (λ a. let e = eqb-true n 7 a in (omega arith, omega arith, omega arith))
    (λ a. let e = eqb-true n 11 a in (omega arith, omega arith, omega arith))
    (either (eqb n 7) _ h1)) (λ a. let e = eqb-true n 15 a in (omega arith, omega arith, omega arith))
    (either _ (eqb n 15) h2)) (λ a. let e = eqb-true n 19 a in (omega arith, omega arith, omega arith))
    (either _ (eqb n 19) h)

-- what a decimal's rule gives to its reader
pub record DecimalSized (p : List ℕ) : Type 0 where
  pub least : 7 ≤ length p
  pub most : length p ≤ 19
  pub fours : (length p - 3) % 4 ≡ 0
  pub scale : get_or p 1 0 ≤ 38

pub decimal_sized : (p : List ℕ) → decimal_lawful p ≡ true → DecimalSized p
unfolding decimal_lawful
decimal_sized p h =
    let a : (decimal_size (length p) && leb (get_or p 0 0) 38 && leb (get_or p 1 0) (get_or p 0 0)) ≡ true = and_left _ (leb (get_or p 2 0) 1) h in
    let b : (decimal_size (length p) && leb (get_or p 0 0) 38) ≡ true = and_left _ (leb (get_or p 1 0) (get_or p 0 0)) a in
    let s = sizes (length p) (and_left _ (leb (get_or p 0 0) 38) b) in
    let x : get_or p 0 0 ≤ 38 = leb-true _ _ (and_right (decimal_size (length p)) _ b) in
    let y : get_or p 1 0 ≤ get_or p 0 0 = leb-true _ _ (and_right (decimal_size (length p) && leb (get_or p 0 0) 38) _ a) in
    record { least = s.0; most = s.1; fours = s.2; scale = omega arith }

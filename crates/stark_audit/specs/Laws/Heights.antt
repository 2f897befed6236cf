-- What is named of stated heights, table by table.
use Rattle.std.proofs.Common.{◌≡◌, ℕ, ◌+◌, ◌<◌, List, [], ◌∷◌, ◌++◌, length, get_or, refl, sym, ap, subst, inl, inr, ◌∙◌, add-one}
use Rattle.std.proofs.lemmas.List.{append-nil, get_or-map}
use Rattle.std.specs.Prelude.{⊤}
use Rattle.p3_field.specs.Checks.{Check, in_turn, number_check, numbers}
use Rattle.tool_statement.specs.StatedTables.{log_height_of, log_heights_of}
use Rattle.tool_statement.specs.declared.table.TableStatement.{TableStatement}
use Rattle.audit_batch.specs.Asked.{AreNamed, always}
use Rattle.audit_batch.specs.Laws.Naming.{named_append}

always_append : {R : Type 0} (cs ds : List (Check R)) → always (cs ++ ds) ≡ always cs ++ always ds
unfolding always
always_append [] ds = refl
always_append (c ∷ cs) ds = ap (λ l. record { condition = ⊤; check = c } ∷ l) (always_append cs ds)

-- no table, and one more
pub none_named : (P : ℕ → Type 0) → AreNamed (always (numbers 0 P)) []
unfolding AreNamed always in_turn
none_named P = refl

module _ (P : ℕ → Type 0) (n : ℕ) (is : List ℕ) (before : AreNamed (always (numbers n P)) is) where
  next_named : (js : List ℕ) → AreNamed (always (number_check P n)) js → AreNamed (always (numbers (n + 1) P)) (is ++ js)
  unfolding in_turn
  next_named js h =
      subst (λ m. AreNamed (always (numbers m P)) (is ++ js)) (sym (add-one n))
      (subst (λ qs. AreNamed qs (is ++ js)) (sym (always_append (numbers n P) (number_check P n))) (named_append (always (numbers n P)) (always (number_check P n)) is js before h))

  pub height_holds : P n → AreNamed (always (numbers (n + 1) P)) is
  unfolding AreNamed always
  height_holds h = subst (AreNamed (always (numbers (n + 1) P))) (append-nil is) (next_named [] (inl (λ c. h, refl)))

  pub height_fails : (P n → ⊥) → AreNamed (always (numbers (n + 1) P)) (is ++ n ∷ [])
  unfolding AreNamed always
  height_fails h = next_named (n ∷ []) (inr (tt, h, (n, [], refl, refl, refl)))

-- the stated height of a table in the list
pub stated_height : (tables : List TableStatement) (n : ℕ) (t : TableStatement) → n < length tables → t ≡ get_or tables n t → get_or (log_heights_of tables) n 0 ≡ log_height_of t
stated_height tables n t within item = get_or-map log_height_of tables n t 0 within ∙ ap log_height_of (sym item)

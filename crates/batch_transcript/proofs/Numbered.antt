-- The numbers of buses, lookup by lookup.
use Rattle.std.proofs.Common.{◌≡◌, ℕ, ◌+◌, ◌<◌, ◌≤◌, inl, inr, true, false, Bool, cond, List, [], ◌∷◌, ◌++◌, length, get_or, map, refl, sym, ◌∙◌, ap, arith, subst}
use Rattle.std.specs.Prelude.{◌==◌, bytes_eq, Option, Some, None}
use Rattle.std.specs.Option.{unwrap_or}
use Rattle.std.specs.Map.{update}
use Rattle.std.specs.List.{position_or_len}
use Rattle.std.specs.Cmp.Lexicographic.{bytes_decides, nat_list_eq_equiv}
use Rattle.std.proofs.lemmas.Bool.{cases_lt}
use Rattle.std.proofs.lemmas.List.{get_or-map}
use Rattle.std.proofs.lemmas.List.Sums.{position_or_len_is, passes_at_first}
use Rattle.std.proofs.lemmas.Bool.Decides.{nat_tests}
use Rattle.p3_field.specs.Poly.{tabulate}
use Rattle.p3_field.specs.Laws.Tabulate.{length-tabulate, get_or-tabulate, tabulate_push}
use Rattle.air_core.specs.Tree.{Bus, local, global}
use Rattle.p3_lookup.specs.Bus.{is_named, opener_of, opener, opened_below, bus_number, NameOneBus}
use Rattle.batch_transcript.specs.Buses.{OpensBy}
use Rattle.p3_lookup.specs.Laws.Buses.{opens_one, opens_none, shares_by_name}

named-itself : (name : List ℕ) → is_named name (global name) ≡ true
named-itself name = (bytes_decides name name).1 refl

named-only : (name : List ℕ) (b : Bus) → is_named name b ≡ true → b ≡ global name
named-only name local e = absurd (cc e)
named-only name (global other) e = ap global (sym ((bytes_decides name other).0 e))

-- what fails below a number, and at it
none-more : (p : ℕ → Bool) (i : ℕ) → ((j : ℕ) → j < i → p j ≡ false) → p i ≡ false → (j : ℕ) → j < i + 1 → p j ≡ false
none-more p i below here j lt = elim (cases_lt j i) [
  | inl less ↦ below j less
  | inr ge ↦ let same : j ≡ i = omega (arith, ge, lt) in ap p same ∙ here
]

-- the first place below n that has this name, or none
abbrev pub FirstAt : List Bus → ℕ → List ℕ → Option ℕ → Type 0
FirstAt bs n q None = (j : ℕ) → j < n → is_named q (get_or bs j local) ≡ false
FirstAt bs n q (Some o) = (o < n) × (is_named q (get_or bs o local) ≡ true) × ((j : ℕ) → j < o → is_named q (get_or bs j local) ≡ false)

abbrev pub AreFirst : List Bus → ℕ → (List ℕ → Option ℕ) → Type 0
AreFirst bs n f = (q : List ℕ) → FirstAt bs n q (f q)

-- a lookup opens the bus that its place says, and the places of names are the first ones below the next place then
pub record OpensNext (bs : List Bus) (n o : ℕ) (after : List ℕ → Option ℕ) : Type 0 where
  pub opener : o ≡ opener bs n
  pub within : o ≤ n
  pub known : AreFirst bs (n + 1) after

module _ (bs : List Bus) (n o : ℕ) (before after : List ℕ → Option ℕ) where
  kept-apart : (q : List ℕ) (r : Option ℕ) → is_named q (get_or bs n local) ≡ false → FirstAt bs n q r → FirstAt bs (n + 1) q r
  kept-apart q None apart h = none-more (λ j. is_named q (get_or bs j local)) n h apart
  kept-apart q (Some p) apart h = (omega (arith, h.0), h.1, h.2)

  opens-named : (name : List ℕ) → n < length bs → get_or bs n local ≡ global name → AreFirst bs n before
      → o ≤ n → is_named name (get_or bs o local) ≡ true → ((j : ℕ) → j < o → is_named name (get_or bs j local) ≡ false)
      → ((q : List ℕ) → after q ≡ update bytes_eq before name (Some o) q) → OpensNext bs n o after
  opens-named name within at known le shown none updates = record {
    opener = sym (position_or_len_is (is_named name) bs o local (omega (arith, within, le)) none (λ _. shown)) ∙ sym (ap (opener_of bs n) at);
    within = le;
    known = λ q. subst (FirstAt bs (n + 1) q) (sym (updates q)) (each q (bytes_eq name q) refl);
  }
    where
      here : (q : List ℕ) → name ≡ q → FirstAt bs (n + 1) q (Some o)
      here q e = subst (λ r. FirstAt bs (n + 1) r (Some o)) e (omega (arith, le), shown, none)

      each : (q : List ℕ) (b : Bool) → bytes_eq name q ≡ b → FirstAt bs (n + 1) q (cond b (Some o) (before q))
      each q true e = here q ((bytes_decides name q).0 e)
      each q false e = kept-apart q (before q) (ap (is_named q) at ∙ nat_list_eq_equiv.symm q name ∙ e) (known q)

  pub opens-next : n < length bs → AreFirst bs n before → OpensBy before (get_or bs n local) n o after → OpensNext bs n o after
  opens-next within known opens = by (get_or bs n local) refl opens
    where
      by-name : (name : List ℕ) (r : Option ℕ) → get_or bs n local ≡ global name → FirstAt bs n name r → o ≡ unwrap_or r n
          → ((q : List ℕ) → after q ≡ update bytes_eq before name (Some o) q) → OpensNext bs n o after
      by-name name None at first e updates =
          opens-named name within at known (omega (arith, e)) (ap (λ k. is_named name (get_or bs k local)) e ∙ ap (is_named name) at ∙ named-itself name)
          (λ j lt. first j (omega (arith, lt, e))) updates
      by-name name (Some p) at first e updates =
          opens-named name within at known (omega (arith, e, first.0)) (ap (λ k. is_named name (get_or bs k local)) e ∙ first.1)
          (λ j lt. first.2 j (omega (arith, lt, e))) updates

      by : (b : Bus) → get_or bs n local ≡ b → OpensBy before b n o after → OpensNext bs n o after
      by local at h = record {
        opener = h.0 ∙ sym (ap (opener_of bs n) at);
        within = omega (arith, h.0);
        known = λ q. subst (FirstAt bs (n + 1) q) (sym (h.1 q)) (kept-apart q (before q) (ap (is_named q) at) (known q));
      }
      by (global name) at h = by-name name (before name) at (known name) h.0 h.1

-- below the first place no name is known
pub none-first : (bs : List Bus) (f : List ℕ → Option ℕ) → ((q : List ℕ) → f q ≡ None) → AreFirst bs 0 f
none-first bs f e q = subst (FirstAt bs 0 q) (sym (e q)) (λ j lt. absurd (omega (arith, lt)))

-- a name's place is updated with what it was
pub update-same : (f : List ℕ → Option ℕ) (name : List ℕ) (w : Option ℕ) → f name ≡ w → (q : List ℕ) → f q ≡ update bytes_eq f name w q
update-same f name w e q = each (bytes_eq name q) refl
  where
    each : (b : Bool) → bytes_eq name q ≡ b → f q ≡ cond b w (f q)
    each true t = ap f (sym ((bytes_decides name q).0 t)) ∙ e
    each false t = refl

-- a lookup that opens no bus is on one that an earlier lookup of its name opens
opener-names : (bs : List Bus) (i : ℕ) → i < length bs → opener bs i < i → NameOneBus bs i (opener bs i)
opener-names bs i h lt = by (get_or bs i local) refl lt
  where
    by : (b : Bus) → get_or bs i local ≡ b → opener_of bs i b < i → NameOneBus bs i (opener_of bs i b)
    by local at lt = absurd (omega (arith, lt))
    by (global name) at lt =
        let o = position_or_len (is_named name) bs in
        record { name = name; first = at; second = named-only name (get_or bs o local) (passes_at_first (is_named name) bs local (omega (arith, lt, h))) }

-- the numbers of the first n lookups' buses, and how many buses these open
pub record AreNumbered (bs : List Bus) (n : ℕ) (numbers : List ℕ) (count : ℕ) : Type 0 where
  pub are : numbers ≡ tabulate n (bus_number bs)
  pub opened : count ≡ opened_below bs n
  pub few : count ≤ n

-- one lookup more, on a bus that is open, and on a new one
pub numbered-later : (bs : List Bus) (n count o x k : ℕ) (numbers ys : List ℕ) → AreNumbered bs n numbers count → n < length bs → o ≡ opener bs n → o < n
    → x ≡ get_or numbers o x → ys ≡ numbers ++ x ∷ [] → k ≡ count → AreNumbered bs (n + 1) ys k
numbered-later bs n count o x k numbers ys s h is lt at pushed kept =
    let below : opener bs n < n = omega (arith, is, lt) in
    let apart : (opener bs n == n) ≡ false = grind (arith, nat_tests, below) in
    let number : x ≡ bus_number bs n =
    at ∙ ap (λ l. get_or l o x) s.are ∙ get_or-tabulate n (bus_number bs) o x lt ∙ ap (bus_number bs) is
    ∙ sym ((shares_by_name bs n (opener bs n) h (omega (arith, below, h)) (λ e. absurd (omega (arith, below, e)))).1 (opener-names bs n h below)) in
    record {
      are = pushed ∙ tabulate_push n (bus_number bs) numbers x s.are number;
      opened = kept ∙ s.opened ∙ sym (opens_none bs n apart);
      few = omega (arith, s.few, kept);
    }

pub numbered-new : (bs : List Bus) (n count o k : ℕ) (numbers ys : List ℕ) → AreNumbered bs n numbers count → n < length bs → o ≡ opener bs n → o ≤ n → (o < n → ⊥)
    → ys ≡ numbers ++ count ∷ [] → k ≡ count + 1 → AreNumbered bs (n + 1) ys k
numbered-new bs n count o k numbers ys s h is le unless pushed kept =
    let itself : opener bs n ≡ n = elim (cases_lt o n) [
      | inl less ↦ absurd (unless less)
      | inr ge ↦ omega (arith, ge, le, is)
    ] in record {
      are = pushed ∙ tabulate_push n (bus_number bs) numbers count s.are (s.opened ∙ ap (opened_below bs) (sym itself));
      opened = kept ∙ ap (λ k. k + 1) s.opened ∙ sym (opens_one bs n itself);
      few = omega (arith, s.few, kept);
    }

-- before the first lookup
pub none-numbered : (bs : List Bus) (ys : List ℕ) → ys ≡ [] → AreNumbered bs 0 ys 0
unfolding opened_below
none-numbered bs ys e = record { are = e; opened = refl; few = omega arith }

pub numbers-long : (bs : List Bus) (n count : ℕ) (ys : List ℕ) → AreNumbered bs n ys count → length ys ≡ n
numbers-long bs n count ys s = ap length s.are ∙ length-tabulate n (bus_number bs)

-- an item's image at its place
pub mapped-at : {X Y : Type 0} (f : X → Y) (xs : List X) (i : ℕ) (x : X) (d : Y) → i < length xs → x ≡ get_or xs i x → get_or (map f xs) i d ≡ f x
mapped-at f xs i x d lt e = get_or-map f xs i x d lt ∙ ap f (sym e)

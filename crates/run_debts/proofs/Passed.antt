-- The tables that a root passes, one after another: the first of them and those behind it; and what a copier has in hand of them as it comes from one to the next.
use Rattle.std.specs.Prelude.{◌≡◌, ◌≢◌, ℕ, zero, suc, ◌<◌, ◌≤◌, ◌==◌, nat_lt, Bool, true, false, List, [], ◌∷◌, ◌++◌, if◌then◌else◌}
use Rattle.std.proofs.Common.{refl, ap, sym, ◌∙◌, arith, inl, inr}
use Rattle.std.proofs.lemmas.Bool.{cases_lt, eqb-true, eq-eqb}
use Rattle.std.proofs.lemmas.Bool.Decides.{nat_tests}
use Rattle.run_places.specs.Given.SeizeWordsWord.{block_in}
use Rattle.run_places.specs.Given.SeizeDeclared.rows.settle.Settle.{Settle}
use Rattle.run_places.specs.Given.SeizeDeclared.rows.settle.Settled.{Settled}
use Rattle.run_places.specs.Given.SeizeDeclared.rows.settle.Settled.TheVariants as settled
use Rattle.run_places.specs.Given.ResizeCopierPromotes.{retired, table_retired}
use Rattle.run_places.specs.Given.ResizeCopierStates.{standing}
use Rattle.run_places.specs.Given.ResizeDeclared.copier.Copier.{Copier}
use Rattle.run_places.specs.Given.ResizeDeclared.copier.Copying.{Copying}
use Rattle.run_places.specs.Given.ResizeDeclared.copier.Copying.TheVariants as copying
use Rattle.run_places.specs.Given.TablesDeclared.node.Node.{Node}
use Rattle.run_places.specs.Given.RunsDeclared.effect.TableId.{TableId}
use Rattle.run_places.specs.Given.RunsDeclared.effect.Thing.{Thing}
use Rattle.run_places.specs.Given.RunsDeclared.effect.Thing.TheVariants.{ATable}
use Rattle.run_places.specs.Given.SchedulesEffects.{passed}
use Rattle.run_places.specs.Given.EffectsKnown.{Known}
use Rattle.run_places.specs.Given.EffectsDeclared.role.Role.TheVariants as role
use Rattle.owner_facts.specs.Given.PointsUnlinked.{has_unlinked}
use Rattle.run_debts.specs.Due.{due_in_copying, word_due}
use Rattle.run_debts.specs.Hand.{things_at, tables_up_to, tables_from, tables_in_hand, NotesDue, NotesTable, NotesTables}

-- the table of a map with this turn, as a thing
abbrev pub numbered : ℕ → ℕ → Thing
numbered map n = ATable (record { map = map; turn = n })

pub passed_none : (map first n : ℕ) → n ≤ first → passed map first n ≡ []
passed_none map first zero low = refl
passed_none map first (suc n) low = by (nat_lt n first) refl
  where
    by : (q : Bool) → nat_lt n first ≡ q → (if q then [] else passed map first n ++ numbered map n ∷ []) ≡ []
    by true e = refl
    by false e = absurd (let high : first ≤ n = grind (arith, nat_tests, e) in omega (arith, low, high))

-- one more
passed_more : (map first n : ℕ) → first ≤ n → passed map first (suc n) ≡ passed map first n ++ numbered map n ∷ []
passed_more map first n low = by (nat_lt n first) refl
  where
    by : (q : Bool) → nat_lt n first ≡ q → (if q then [] else passed map first n ++ numbered map n ∷ []) ≡ passed map first n ++ numbered map n ∷ []
    by true e = absurd (let high : n < first = grind (arith, nat_tests, e) in omega (arith, low, high))
    by false e = refl

-- the first, and those behind it
pub passed_first : (map first n : ℕ) → first < n → passed map first n ≡ numbered map first ∷ passed map (suc first) n
passed_first map first zero low = absurd (omega (arith, low))
passed_first map first (suc n) low = elim (cases_lt first n) as (λ _. passed map first (suc n) ≡ numbered map first ∷ passed map (suc first) (suc n)) [
  | inl before ↦
      passed_more map first n (omega (arith, before))
      ∙ ap (λ (l : List Thing). l ++ numbered map n ∷ []) (passed_first map first n before)
      ∙ ap (λ (l : List Thing). numbered map first ∷ l) (sym (passed_more map (suc first) n (omega (arith, before))))
  | inr past ↦
      passed_more map first n (omega (arith, low))
      ∙ ap (λ (l : List Thing). l ++ numbered map n ∷ []) (passed_none map first n past)
      ∙ ap (λ (k : ℕ). numbered map k ∷ []) (let same : n ≡ first = omega (arith, low, past) in same)
      ∙ ap (λ (l : List Thing). numbered map first ∷ l) (sym (passed_none map (suc first) (suc n) (omega (arith, past))))
]

module _ (known : Known) (p : Copier) where
  -- from a word that names a table of a map
  pub tables_named : (word len : ℕ) (t : TableId) → word ≢ 0 → known.roles (block_in word) ≡ role.Table t len → tables_from known p word ≡ passed t.map t.turn p.target.turn
  tables_named word len t some is = by (word == 0) refl
    where
      by : (q : Bool) → (word == 0) ≡ q → (if q then [] else tables_up_to p.target.turn (known.roles (block_in word))) ≡ passed t.map t.turn p.target.turn
      by true e = absurd (some (eqb-true word 0 e))
      by false e = ap (tables_up_to p.target.turn) is

  -- from none
  pub tables_none : (word : ℕ) → word ≡ 0 → tables_from known p word ≡ []
  tables_none word none = ap (λ (q : Bool). if q then [] else tables_up_to p.target.turn (known.roles (block_in word))) (eq-eqb word 0 none)

  -- a copier that has unlinked none has none in hand
  pub copier_none : (stands : Copying) → has_unlinked stands ≡ false → (tables_in_hand known p stands ≡ []) × NotesTables known p stands
  copier_none copying.Announces e = absurd (cc e)
  copier_none (copying.Succeeds table) e = absurd (cc e)
  copier_none (copying.Retires settle rest) e = absurd (cc e)
  copier_none _ e = (refl, tt)

  -- what it has in hand once the retirement of a table has gone on, or is over: what that has in hand still, and the tables behind
  abbrev pub GoesBehind : ℕ → Copier → Type 0
  GoesBehind rest q =
      (tables_in_hand known q q.stands ≡ things_at known (word_due (due_in_copying q.stands)) ++ tables_from known p rest)
      × (NotesDue known (word_due (due_in_copying q.stands)) → NotesTable known rest → NotesTables known q q.stands)

  over_behind : (rest : ℕ) → GoesBehind rest (table_retired p rest)
  over_behind rest = by (rest == 0) refl
    where
      by : (b : Bool) → (rest == 0) ≡ b
          → (let q : Copier = if b then standing p copying.Over else standing p (copying.Succeeds rest) in
          (tables_in_hand known q q.stands ≡ things_at known (word_due (due_in_copying q.stands)) ++ (if b then [] else tables_up_to p.target.turn (known.roles (block_in rest))))
          × (NotesDue known (word_due (due_in_copying q.stands)) → NotesTable known rest → NotesTables known q q.stands))
      by true e = (refl, λ due notes. tt)
      by false e = (ap (λ (b : Bool). if b then [] else tables_up_to p.target.turn (known.roles (block_in rest))) e, λ due notes. notes)

  pub retired_behind : {K V : Type 0} (rest : ℕ) (end : Settle × Settled (Node K V)) → GoesBehind rest (retired p rest end).0
  retired_behind rest (s, settled.Goes) = (refl, λ due notes. (due, notes))
  retired_behind rest (s, settled.Waits) = (refl, λ due notes. (due, notes))
  retired_behind rest (s, settled.Gave value) = (refl, λ due notes. (due, notes))
  retired_behind rest (s, settled.Done) = over_behind rest

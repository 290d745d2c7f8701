-- Which blocks calls are to hand over, once one of them goes on otherwise, or ends, and maps stand on.
use Rattle.std.specs.Prelude.{◌≢◌, ◌*◌, Option, Some}
use Rattle.std.proofs.Common.{◌≡◌, ℕ, ◌<◌, ◌≤◌, ◌⊎◌, inl, inr, refl, arith, ap, sym, subst, ◌∙◌}
use Rattle.std.proofs.lemmas.Bool.{cases_eq}
use Rattle.run_shows.specs.Given.SeizeWorld.{World, Rests, with_at}
use Rattle.run_shows.specs.Given.TablesChunks.{is_incremental}
use Rattle.run_shows.specs.Given.TablesDeclared.node.Node.{Node}
use Rattle.run_shows.specs.Given.ResizeDeclared.copier.Copier.{Copier}
use Rattle.owner_facts.specs.Given.CallersTogether.{UnderWay}
use Rattle.owner_facts.proofs.Given.CallersTogether.At.{at_other, at_same}
use Rattle.owner_facts.specs.Given.FinishesEndings.{Finishing}
use Rattle.owner_facts.specs.Given.FinishesMaps.{Standing, with_call}
use Rattle.many_acts.specs.Carries.Theirs.{IsAhead, IsToCome, IsToHandOver, HasObligation, IsObligation, next_of_them}

pub one_some : {X : Type 0} (o : Option X) (a b : X) → o ≡ Some a → o ≡ Some b → a ≡ b
one_some o a b e f = cc (e, f)

-- A map stands on: no table of it is lost, and each stands in its block.
pub record StandsOn {K : Type 0} (s s2 : Standing K) : Type 0 where
  pub mode : s2.setting.mode ≡ s.setting.mode
  pub past : s.chart.past ≤ s2.chart.past
  pub tables : (t : ℕ) → t < s.chart.past → s2.blocks.table t ≡ s.blocks.table t

pub stays_so : {K : Type 0} (s : Standing K) → StandsOn s s
stays_so s = record { mode = refl; past = omega arith; tables = λ t made. refl }

-- the map of this number does, if there is one
abbrev pub StandsOnAt : {K : Type 0} → (maps maps2 : ℕ → Option (Standing K)) → ℕ → Type 0
StandsOnAt {K} maps maps2 n = (s : Standing K) → maps n ≡ Some s → (s2 : Standing K) × (maps2 n ≡ Some s2) × StandsOn s s2

-- what is ahead of a copier is so in a map that stands on
pub ahead_on : (past past2 : ℕ) (table table2 : ℕ → ℕ) (word target : ℕ) → past ≤ past2 → ((t : ℕ) → t < past → table2 t ≡ table t) → (b : ℕ) → IsAhead past table word target b → IsAhead past2 table2 word target b
ahead_on past past2 table table2 word target grown tables b (t, next, u, low, high, at) = (
  t,
  record {
    named = next.named ∙ ap (λ (x : ℕ). x * 2048) (sym here);
    some = subst (λ (x : ℕ). 0 < x) (sym here) next.some;
    last = λ v after before e. next.last v after before (sym (tables v (let made = next.made in omega (arith, before, made))) ∙ e ∙ here);
    made = let made = next.made in omega (arith, made, grown);
  },
  u,
  low,
  high,
  at ∙ sym (tables u (let made = next.made in omega (arith, high, made))),
)
  where
    here : table2 t ≡ table t
    here = tables t (let made = next.made in omega (arith, low, high, made))

-- what a copier is to come to, it is to come to still in a map that stands on
pub comes_on : {K : Type 0} (maps maps2 : ℕ → Option (Standing K)) (n : ℕ) (p : Copier) (b : ℕ) → StandsOnAt maps maps2 n → IsToCome maps n p b → IsToCome maps2 n p b
comes_on {K} maps maps2 n p b on (s, here, blocking, ahead) =
    let k = on s here in (
      k.0,
      k.1,
      ap is_incremental k.2.mode ∙ blocking,
      ahead_on s.chart.past k.0.chart.past s.blocks.table k.0.blocks.table (next_of_them p p.stands) p.target.turn k.2.past k.2.tables b ahead,
    )

module _ {K V : Type 0} (w w2 : World (Node K V)) (maps maps2 : ℕ → Option (Standing K)) where
  -- what it is to hand over it is to hand over still, if its row rests as it did
  pub hands_on : (n j : ℕ) (p : Copier) (b : ℕ) → (w.row j ≡ Rests → w2.row j ≡ Rests) → StandsOnAt maps maps2 n → IsToHandOver w maps n j p b → IsToHandOver w2 maps2 n j p b
  hands_on n j p b rests on (inl (row, due)) = inl (rests row, due)
  hands_on n j p b rests on (inr comes) = inr (comes_on maps maps2 n p b on comes)

  module _ {Q : Type 0} (calls : ℕ → ℕ → Option (UnderWay K V Q)) (enders enders2 : ℕ → Option (Finishing K V)) where
    -- so do all calls, if they go on as they were
    pub owed_on : (b : ℕ) → ((n j : ℕ) (u : UnderWay K V Q) → calls n j ≡ Some u → (w.row j ≡ Rests → w2.row j ≡ Rests) × StandsOnAt maps maps2 n) → IsObligation w maps calls enders b → IsObligation w2 maps2 calls enders2 b
    owed_on b on (n, j, u, under, (p, is, owes)) = let k = on n j u under in (n, j, u, under, (p, is, hands_on n j p b k.0 k.1 owes))

    module _ (m i : ℕ) (next : Option (UnderWay K V Q)) where
      abbrev calls2 : ℕ → ℕ → Option (UnderWay K V Q)
      calls2 = with_call calls m i next

      call_now : calls2 m i ≡ next
      call_now = ap (λ (f : ℕ → Option (UnderWay K V Q)). f i) (at_same calls m (with_at (calls m) i next) m refl) ∙ at_same (calls m) i next i refl

      -- one of them goes on, and is to hand the block over
      abbrev pub OwesThen : ℕ → Type 0
      OwesThen b = (u2 : UnderWay K V Q) × (next ≡ Some u2) × HasObligation w2 maps2 m i u2 b

      pub owed_then : (b : ℕ) → OwesThen b → IsObligation w2 maps2 calls2 enders2 b
      owed_then b (u2, is, owes) = (m, i, u2, call_now ∙ is, owes)

      pub owed_with : (b : ℕ) → ((n j : ℕ) (u : UnderWay K V Q) → calls n j ≡ Some u → (n ≡ m → j ≡ i → ⊥) → (w.row j ≡ Rests → w2.row j ≡ Rests) × StandsOnAt maps maps2 n)
          → ((u : UnderWay K V Q) → calls m i ≡ Some u → HasObligation w maps m i u b → OwesThen b)
          → IsObligation w maps calls enders b → IsObligation w2 maps2 calls2 enders2 b
      owed_with b others its (n, j, u, under, (p, is, owes)) = by (cases_eq n m) (cases_eq j i)
        where
          still : (n ≡ m → j ≡ i → ⊥) → calls2 n j ≡ calls n j → IsObligation w2 maps2 calls2 enders2 b
          still ne e = let k = others n j u under ne in (n, j, u, e ∙ under, (p, is, hands_on n j p b k.0 k.1 owes))

          by : (n ≡ m) ⊎ (n ≢ m) → (j ≡ i) ⊎ (j ≢ i) → IsObligation w2 maps2 calls2 enders2 b
          by (inr ne) e = still (λ same _. ne same) (ap (λ (f : ℕ → Option (UnderWay K V Q)). f j) (at_other calls m (with_at (calls m) i next) n ne))
          by (inl same) (inr ne) =
              still (λ _ k. ne k)
              (ap (λ (f : ℕ → Option (UnderWay K V Q)). f j) (at_same calls m (with_at (calls m) i next) n same) ∙ at_other (calls m) i next j ne ∙ ap (λ (k : ℕ). calls k j) (sym same))
          by (inl same) (inl it) =
              owed_then b (its u (sym (ap (λ (k : ℕ). calls k j) same ∙ ap (calls m) it) ∙ under)
              (p, is, subst (λ (x : ℕ). IsToHandOver w maps m x p b) it (subst (λ (x : ℕ). IsToHandOver w maps x j p b) same owes)))

-- In incremental mode, where each copying that is not over has who ends it: a call that waits for a copying has another caller's call by it, which goes on with it, or is to end it.
use Rattle.std.specs.Prelude.{◌≢◌, Option, Some}
use Rattle.std.proofs.Common.{◌≡◌, ℕ, suc, ◌<◌, ◌⊎◌, inl, inr, Bool, true, refl, ap, sym, subst, ◌∙◌}
use Rattle.seize.specs.World.{World}
use Rattle.map_tables.specs.Chunks.{is_incremental}
use Rattle.map_tables.specs.declared.node.Node.{Node}
use Rattle.map_tables.specs.declared.setting.Setting.{Setting}
use Rattle.map_tables.specs.declared.table.Table.{Table}
use Rattle.map_machines.specs.declared.copier.Copier.{Copier}
use Rattle.map_machines.specs.declared.copier.Copying.{Copying as Point}
use Rattle.map_machines.specs.declared.copier.Copying.TheVariants as copies
use Rattle.many_calls.specs.Given.RuleChart.{Claimed, Done, Chart}
use Rattle.many_calls.specs.Given.RuleWords.{Blocks}
use Rattle.many_calls.specs.Given.PointsFactsCopies.{CopyingFacts, CopierFacts}
use Rattle.many_calls.specs.Sights.{Visible}
use Rattle.many_calls.specs.Together.{UnderWay, Together, in_slot}
use Rattle.map_measures.specs.Waits.Others.{EndsAt, HaveEnds, copier_of}
use Rattle.map_measures.specs.Waits.Waits.{IsBeingCopied, CopierAwaits}
use Rattle.map_measures.proofs.Waits.Askers.{askers_have_others}
use Rattle.map_measures.proofs.Waits.Claimed.{pairs_are_copied_by_calls}
use Rattle.map_measures.proofs.Waits.Works.{OnlyLooks, works}

-- another caller's call, that does more than look, while a table is linked behind the root; or that is to end a copying into a linked table
abbrev pub HasOther : {K V Q : Type 0} → Chart K → (ℕ → Option (UnderWay K V Q)) → ℕ → Type 0
HasOther {K} {V} {Q} c calls i =
    (k : ℕ) × (u : UnderWay K V Q) × (calls k ≡ Some u) × (k ≢ i)
    × (((suc c.first < c.past) × (OnlyLooks u → ⊥)) ⊎ ((t : ℕ) × (t < c.past) × (q : Copier) × (copier_of u ≡ Some q) × EndsAt c q q.stands t))

module _ {K Q : Type 0} (V : Type 0) (same : K → K → Bool) (hash : K → ℕ) (asks : Q → K → Bool) (setting : Setting) (slot : ℕ → ℕ)
    (w : World (Node K V)) (c : Chart K) (blocks : Blocks) (sights : ℕ → Visible) (calls : ℕ → Option (UnderWay K V Q))
    (s : Together V same hash asks setting slot w c blocks sights calls) (mode : is_incremental setting.mode ≡ true) where
  -- who waits for a pair has claimed no place itself
  pub by_pair : (i t place : ℕ) → IsBeingCopied c t place → ((j : ℕ) → c.share (suc c.first) j ≢ Claimed i) → HasOther c calls i
  by_pair i t place being none =
      let pair = pairs_are_copied_by_calls V same hash asks setting slot w c blocks sights calls s mode t place being in (
        pair.2,
        pair.3,
        pair.4,
        (λ e. none place (pair.5 ∙ ap (λ (x : ℕ). Claimed x) e)),
        inl (pair.1, works same hash asks setting slot w c blocks sights calls s mode pair.2 place pair.3 pair.4 (inl pair.5)),
      )

  -- within a copier
  pub by_copier : HaveEnds c calls → (i : ℕ) (x : UnderWay K V Q) → calls i ≡ Some x → (p : Copier) → copier_of x ≡ Some p
      → (seen : Blocks) → CopierFacts same hash w i (in_slot setting (slot i)) c seen p → CopierAwaits c true p p.stands → HasOther c calls i
  by_copier ends i x call p within seen f awaits = by p.stands refl f.point awaits
    where
      asked : (t : ℕ) → t < c.past
          → (k : ℕ) × (u : UnderWay K V Q) × (calls k ≡ Some u) × (k ≢ i)
          × (((suc c.first < c.past) × (j : ℕ) × (j < c.len c.first) × (c.share (suc c.first) j ≡ Done k)) ⊎ ((q : Copier) × (copier_of u ≡ Some q) × EndsAt c q q.stands t))
          → HasOther c calls i
      asked t made (k, u, has, ne, inl (linked, j, l, done)) =
          (k, u, has, ne, inl (linked, works same hash asks setting slot w c blocks sights calls s mode k j u has (inr (l, done))))
      asked t made (k, u, has, ne, inr (q, of, at_end)) = (k, u, has, ne, inr (t, made, q, of, at_end))

      by : (stands : Point) → p.stands ≡ stands → CopyingFacts same hash w i (in_slot setting (slot i)) c seen p stands → CopierAwaits c true p stands → HasOther c calls i
      by copies.Marks here facts (incremental, being, unfinished) = by_pair i p.source.turn p.place being facts.3
      by copies.Asks here facts (spent, unfinished) =
          asked p.target.turn (subst (λ (t : ℕ). t < c.past) (sym (ap (λ (y : Table). y.turn) facts.1.1.is)) facts.1.1.made)
          (askers_have_others V same hash asks setting slot w c blocks sights calls s mode ends i x call p within here seen facts unfinished)
      by _ here facts none = absurd none

-- In blocking mode, a step of a copier whose table the root has left leaves each copying that is not over with who ends it: it has no part in one, and makes no table the root.
use Rattle.std.specs.Prelude.{◌*◌, Some}
use Rattle.std.proofs.Common.{◌≡◌, ℕ, ◌<◌, Bool, false, inl, inr, ap, sym, subst, ◌∙◌, arith, ◌⊎◌, refl}
use Rattle.seize_words.specs.declared.at.At.TheVariants.{Root}
use Rattle.seize_words.specs.OneMemory.Mem.{Can, Mem, Took, value_at, word_at}
use Rattle.seize_words.specs.OneMemory.Plan.{May, Steps}
use Rattle.many_calls.specs.Given.LateLateCopies.{CopiesSuperseded, SupersededCopierFacts, SupersededCopying}
use Rattle.map_machines.specs.Copier.{copier_plan, plan_at}
use Rattle.map_machines.specs.CopierPromotes.{promoted}
use Rattle.seize.specs.World.{World}
use Rattle.map_tables.specs.Chunks.{is_incremental}
use Rattle.map_tables.specs.declared.node.Node.{Node}
use Rattle.map_tables.specs.declared.setting.Setting.{Setting}
use Rattle.map_machines.specs.declared.copier.Copier.{Copier}
use Rattle.map_machines.specs.declared.copier.Copying.TheVariants as at
use Rattle.many_calls.specs.Given.RuleChart.{Chart}
use Rattle.many_calls.specs.Given.RuleWords.{Blocks}
use Rattle.many_calls.specs.Given.PointsFactsCopiesBlocking.{HasNoShares}
use Rattle.many_calls.specs.Given.PointsTold.{IsRowOfCopier}
use Rattle.map_tables.specs.declared.status.TheConstants.Status.{PROMOTED}
use Rattle.map_tables.specs.declared.table.Table.{Table}
use Rattle.map_machines.specs.declared.copier.Copying.{Copying as Point}
use Rattle.many_calls.specs.Given.RuleMaps.{IsTable}
use Rattle.many_calls.specs.Given.RuleInWorld.{IsMapIn}
use Rattle.map_machines.specs.declared.yielding.Yielding.{Yielding}
use Rattle.many_calls.proofs.Claims.Knows.{late_knows}
use Rattle.seize_words.proofs.OneMemory.OneOwner.Operations.{exchanged}
use Rattle.many_calls.proofs.Given.RuleSpared.{step_spares}
use Rattle.map_measures.specs.Waits.Others.{EndsAt}
use Rattle.map_measures.specs.Waiters.Blocking.{AbortsAt}
use Rattle.map_measures.proofs.Waiters.Moves.{AllKept, none_either}
use Rattle.map_measures.proofs.Waiters.Reached.{Reached, announces_keep, aside_keeps, first_stays, root_before}
use Rattle.map_measures.proofs.Waiters.Writes.{root_spares, root_word}
use Rattle.map_measures.proofs.Waiters.Copiers.{written}

module _ {K V : Type 0} (same : K → K → Bool) (hash : K → ℕ) (caller : ℕ) (setting : Setting) (mode : is_incremental setting.mode ≡ false)
    (w : World (Node K V)) (c : Chart K) (blocks : Blocks) (map : IsMapIn same hash setting w c blocks) (began : ℕ)
    (p : Copier) (facts : SupersededCopierFacts same hash w caller setting c blocks began p) (row : IsRowOfCopier p.stands → ⊥) (may : May Can Took value_at w.memory (copier_plan {V = V} hash p))
    (m2 : Mem (Node K V)) (end : Copier × Yielding (Node K V) Table) (steps : Steps Took value_at w.memory (copier_plan hash p) m2 end) (d : Chart K) (blocks2 : Blocks)
    (r : Reached same hash setting mode w caller c blocks map m2 d blocks2) (P A G : ℕ → Type 0) where
  -- it has no part in a copying that goes on
  late_idle : (stands : Point) → SupersededCopying same hash w caller setting c blocks began p stands → HasNoShares same hash w caller setting c blocks
  late_idle at.Asks (u, t, late) = late.idle
  late_idle at.Sees (u, t, late) = late.idle
  late_idle at.Claims (u, t, late) = late.idle
  late_idle at.Marks (u, t, late, range) = late.0.idle
  late_idle (at.Probes word code table probe) (u, t, n, k, j, works, code_is, table_is, trial) = works.copies.0.idle
  late_idle (at.Puts word code table probe) (u, t, n, k, j, works, code_is, table_is, trial) = works.copies.0.idle
  late_idle at.Counts (u, t, late) = late.0.idle
  late_idle at.Aborts (u, t, late) = late.0.idle
  late_idle at.Replaces (u, t, late) = late.0.idle
  late_idle (at.Remakes making) (u, t, late, new) = late.0.idle
  late_idle at.Promotes (u, t, late) = late.idle
  late_idle at.Announces (s, t, source, unlinked) = unlinked.3
  late_idle (at.Succeeds table) (s, t, unlinked, is) = unlinked.3
  late_idle (at.Retires settle rest) (s, t, unlinked, retires, next) = unlinked.3
  late_idle at.Over (t, target, left, none) = none
  late_idle _ facts = absurd facts

  -- what it copies is the root no more: it makes no table the root
  module _ (u t : ℕ) (late : CopiesSuperseded same hash w caller setting c blocks began p u t) where
    root_other : word_at w.memory (Root setting.root) ≡ Some p.source.link → ⊥
    root_other is =
        let made : 0 < c.past = let some = late.target.made in omega (arith, some) in
        let first_made = map.map.rule.common.rooted made in
        let words = sym (root_before same hash setting mode w caller c blocks map m2 d blocks2 r made) ∙ is in
        let link : p.source.link ≡ blocks.table u * 2048 = ap (λ (x : Table). x.link) late.source.is in
        let numbers : blocks.table c.first * 2048 ≡ p.source.link = cc words in
        let table : blocks.table u ≡ blocks.table c.first = omega (arith, numbers, link) in
        let one : u ≡ c.first = map.map.shows.tables_apart u c.first late.source.made first_made late.source.known (map.map.shows.linked c.first (omega arith) first_made) table in
        let order = late.order in let over = late.over in omega (arith, one, order, over)

    same_memory : Steps Took value_at w.memory (plan_at hash p at.Promotes) m2 end → m2 ≡ w.memory
    same_memory s = elim (exchanged w.memory (promoted p) (Root p.setting.root) p.source.link p.target.link m2 end s) as (λ _. m2 ≡ w.memory) [
      | inl done ↦ absurd (root_other (subst (λ (x : Setting). word_at w.memory (Root x.root) ≡ Some p.source.link) facts.setting_is (done.1.0 ∙ ap (λ (n : ℕ). Some n) done.1.1)))
      | inr lost ↦ lost.2
    ]

  is_promotes : (stands : Point) → (stands ≡ at.Promotes) ⊎ (stands ≡ at.Promotes → ⊥)
  is_promotes at.Promotes = inl refl
  is_promotes _ = inr (λ e. cc e)

  root_stays : word_at m2 (Root setting.root) ≡ word_at w.memory (Root setting.root)
  root_stays = by (is_promotes p.stands)
    where
      by : (p.stands ≡ at.Promotes) ⊎ (p.stands ≡ at.Promotes → ⊥) → word_at m2 (Root setting.root) ≡ word_at w.memory (Root setting.root)
      by (inl here) =
          let point = subst (λ (q : Point). SupersededCopying same hash w caller setting c blocks began p q) here facts.point in
          ap (λ (m : Mem (Node K V)). word_at m (Root setting.root)) (same_memory point.0 point.1 point.2 (subst (λ (q : Point). Steps Took value_at w.memory (plan_at hash p q) m2 end) here steps))
      by (inr other) =
          step_spares (root_word same hash w caller setting c blocks map) tt w.memory _ map.map.shows.root_there (copier_plan hash p) m2 end
          (root_spares same hash w caller setting c blocks map p (late_knows same hash w caller setting c blocks map p began p.stands facts.point row) other) may steps
          ∙ sym map.map.shows.root_there

  late_first : d.first ≡ c.first
  late_first = first_stays same hash setting mode w caller c blocks map m2 d blocks2 r root_stays

  on : (End Lose : ℕ → Type 0) → AllKept P A G c End Lose → AllKept P A G d End Lose
  on End Lose all =
      aside_keeps same hash setting mode w caller c blocks map m2 d blocks2 r P A G late_first (late_idle p.stands facts.point) End Lose all

  target_turn : (t : ℕ) → IsTable c blocks p.target t → p.target.turn ≡ t
  target_turn t target = ap (λ (x : Table). x.turn) target.is

  -- it is to end a copying only where it has yet to say so; and it is to give none up
  no_promote : (u t v : ℕ) → CopiesSuperseded same hash w caller setting c blocks began p u t → (p.target.turn ≡ v) × (c.first < v) → ⊥
  no_promote u t v late (turn, ahead) = let its = target_turn t late.target in let over = late.over in omega (arith, turn, ahead, its, over)

  abbrev IsAnnounced : Point → Type 0
  IsAnnounced at.Announces = Unit {0}
  IsAnnounced _ = ⊥

  no_end : (stands : Point) → (IsAnnounced stands → ⊥) → SupersededCopying same hash w caller setting c blocks began p stands → (v : ℕ) → EndsAt c p stands v → ⊥
  no_end at.Promotes other (u, t, late) v own = no_promote u t v late own
  no_end at.Announces other point v own = other tt
  no_end _ other point v own = own

  no_lose : (stands : Point) → SupersededCopying same hash w caller setting c blocks began p stands → (v : ℕ) → AbortsAt c p stands v → ⊥
  no_lose at.Aborts (u, t, late) v own = no_promote u t v late.0 own
  no_lose _ point v own = own

  -- after its step nobody is to do more than before
  pub late_keeps : AllKept P A G c (λ v. EndsAt c p p.stands v) (λ v. AbortsAt c p p.stands v) → AllKept P A G d (λ v. ⊥) (λ v. ⊥)
  late_keeps all = by p.stands refl facts.point steps all
    where
      by : (stands : Point) → p.stands ≡ stands → SupersededCopying same hash w caller setting c blocks began p stands → Steps Took value_at w.memory (plan_at hash p stands) m2 end
          → AllKept P A G c (λ v. EndsAt c p stands v) (λ v. AbortsAt c p stands v) → AllKept P A G d (λ v. ⊥) (λ v. ⊥)
      by at.Announces here (s, t, source, unlinked) taken all =
          announces_keep same hash setting mode w caller c blocks map m2 d blocks2 r P A G late_first (late_idle at.Announces (s, t, source, unlinked)) p
          (written same hash caller setting mode w c blocks map p m2 d blocks2 r t PROMOTED unlinked.1 taken.1.1) all
      by at.Promotes here point taken all = on (λ v. ⊥) (λ v. ⊥) (none_either P A G c _ _ (no_end at.Promotes (λ none. none) point) (no_lose at.Promotes point) all)
      by at.Aborts here point taken all = on (λ v. ⊥) (λ v. ⊥) (none_either P A G c _ _ (no_end at.Aborts (λ none. none) point) (no_lose at.Aborts point) all)
      by _ here point taken all = on (λ v. ⊥) (λ v. ⊥) all

-- In blocking mode, a copier that makes its target the root is to say so then, and each other copying that is not over has who ends it on.
use Rattle.std.specs.Prelude.{◌*◌, cond, Some}
use Rattle.std.proofs.Common.{◌≡◌, ℕ, ◌<◌, Bool, false, inl, inr, ap, sym, ◌∙◌, arith}
use Rattle.seize_words.specs.declared.at.At.TheVariants.{Root}
use Rattle.seize_words.specs.OneMemory.Mem.{Mem, Took, value_at, with_word, word_at}
use Rattle.seize_words.specs.OneMemory.Plan.{Steps}
use Rattle.seize.specs.World.{World}
use Rattle.map_tables.specs.Chunks.{is_incremental}
use Rattle.map_tables.specs.declared.node.Node.{Node}
use Rattle.map_tables.specs.declared.setting.Setting.{Setting}
use Rattle.map_tables.specs.declared.table.Table.{Table}
use Rattle.map_machines.specs.Copier.{plan_at}
use Rattle.map_machines.specs.CopierPromotes.{promoted}
use Rattle.map_machines.specs.CopierStates.{standing}
use Rattle.map_machines.specs.declared.copier.Copier.{Copier}
use Rattle.map_machines.specs.declared.copier.Copying.TheVariants as at
use Rattle.map_machines.specs.declared.yielding.Yielding.{Yielding}
use Rattle.map_machines.specs.declared.yielding.Yielding.TheVariants.{Goes}
use Rattle.many_calls.specs.Given.RuleChart.{Chart}
use Rattle.many_calls.specs.Given.RuleInWorld.{IsMapIn}
use Rattle.many_calls.specs.Given.RuleWords.{Blocks, Represents}
use Rattle.many_calls.specs.Given.PointsFactsCopiesBlocking.{RestsIn}
use Rattle.seize_words.proofs.OneMemory.OneOwner.AfterWrites.{word_at-with_word}
use Rattle.seize_words.proofs.OneMemory.OneOwner.Operations.{exchanged}
use Rattle.seize_acts.proofs.Given.SeizeMemoryWords.Named.{same_at-refl}
use Rattle.map_measures.specs.Waits.Others.{EndsAt}
use Rattle.map_measures.specs.Waiters.Blocking.{AbortsAt}
use Rattle.map_measures.proofs.Waiters.Moves.{AllKept}
use Rattle.map_measures.proofs.Waiters.Reached.{Reached, past_on, promotes_keep, root_before, root_now, shows}
use Rattle.seize_words.proofs.General.{some_is as is_some_of}

module _ {K V : Type 0} (same : K → K → Bool) (hash : K → ℕ) (caller : ℕ) (setting : Setting) (mode : is_incremental setting.mode ≡ false) (w : World (Node K V)) (c : Chart K) (blocks : Blocks)
    (map : IsMapIn same hash setting w c blocks) (p : Copier) (setting_is : p.setting ≡ setting) (m2 : Mem (Node K V)) (end : Copier × Yielding (Node K V) Table)
    (steps : Steps Took value_at w.memory (plan_at hash p at.Promotes) m2 end) (d : Chart K) (blocks2 : Blocks) (r : Reached same hash setting mode w caller c blocks map m2 d blocks2)
    (P A G : ℕ → Type 0) (t : ℕ) (rests : RestsIn same hash w caller setting c blocks p t) where
  target_is : p.target.link ≡ blocks.table t * 2048
  target_is = ap (λ (x : Table). x.link) rests.0.2.is

  target_turn : p.target.turn ≡ t
  target_turn = ap (λ (x : Table). x.turn) rests.0.2.is

  source_is : p.source.link ≡ blocks.table c.first * 2048
  source_is = ap (λ (x : Table). x.link) rests.0.0.is

  root_here : word_at w.memory (Root setting.root) ≡ Some (blocks.table c.first * 2048)
  root_here = root_before same hash setting mode w caller c blocks map m2 d blocks2 r (let made = rests.0.0.made in omega (arith, made))

  its_root : word_at w.memory (Root p.setting.root) ≡ Some (blocks.table c.first * 2048)
  its_root = ap (λ (x : Setting). word_at w.memory (Root x.root)) setting_is ∙ root_here

  abbrev pub Comes : Type 0
  Comes = (end ≡ (standing p at.Announces, Goes)) × AllKept P A G d (λ u. EndsAt d p at.Announces u) (λ u. ⊥)

  -- the root is its target then
  module _ (wrote : m2 ≡ with_word w.memory (Root p.setting.root) p.target.link) where
    root_then : word_at m2 (Root setting.root) ≡ Some (blocks.table t * 2048)
    root_then =
        ap (λ (n : Mem (Node K V)). word_at n (Root setting.root))
        (wrote ∙ ap (λ (x : Setting). with_word w.memory (Root x.root) p.target.link) setting_is ∙ ap (λ (l : ℕ). with_word w.memory (Root setting.root) l) target_is)
        ∙ word_at-with_word w.memory (Root setting.root) (blocks.table t * 2048) (Root setting.root) (is_some_of _ _ root_here)
        ∙ ap (λ (b : Bool). cond b (Some (blocks.table t * 2048)) (word_at w.memory (Root setting.root))) (same_at-refl (Root setting.root))

    here : Represents hash m2 d blocks2 setting.root
    here = shows same hash setting mode w caller c blocks map m2 d blocks2 r

    made_then : t < d.past
    made_then = past_on same hash setting mode w caller c blocks map m2 d blocks2 r t rests.0.2.made

    first_then : d.first ≡ t
    first_then =
        let some : 0 < d.past = let made = made_then in omega (arith, made) in
        let rooted = r.2.map.rule.common.rooted some in
        let same_table = r.3.tables t rests.0.2.made rests.0.2.known in
        let words = sym (root_now same hash setting mode w caller c blocks map m2 d blocks2 r some) ∙ root_then in
        let numbers : blocks2.table d.first * 2048 ≡ blocks.table t * 2048 = cc words in
        let there : blocks2.table t ≡ blocks.table t = same_table.0 in
        let table : blocks2.table d.first ≡ blocks2.table t = omega (arith, numbers, there) in
        here.tables_apart d.first t rooted made_then (here.linked d.first (omega arith) rooted) same_table.1 table

    all_then : AllKept P A G c (λ u. EndsAt c p at.Promotes u) (λ u. AbortsAt c p at.Promotes u) → AllKept P A G d (λ u. EndsAt d p at.Announces u) (λ u. ⊥)
    all_then all =
        promotes_keep same hash setting mode w caller c blocks map m2 d blocks2 r P A G p (first_then ∙ sym target_turn)
        (λ e. (let first = first_then in let behind = rests.0.1 in omega (arith, e, first, behind))) all

  pub copier_promotes : AllKept P A G c (λ u. EndsAt c p at.Promotes u) (λ u. AbortsAt c p at.Promotes u) → Comes
  copier_promotes all = elim (exchanged w.memory (promoted p) (Root p.setting.root) p.source.link p.target.link m2 end steps) as (λ _. Comes) [
    | inl done ↦ (done.3, all_then done.2 all)
    | inr lost ↦ absurd (lost.1.1 (let e : lost.0 ≡ blocks.table c.first * 2048 = cc (lost.1.0, its_root) in e ∙ sym source_is))
  ]

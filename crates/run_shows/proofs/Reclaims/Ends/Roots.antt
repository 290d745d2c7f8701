-- From each point on roots, reclaiming all comes to its end.
use Rattle.std.specs.Prelude.{Option}
use Rattle.std.proofs.Common.{◌≡◌, ℕ, ◌<◌, ◌≤◌, ◌^◌, Bool, List, ◌⊎◌, refl, sym, subst}
use Rattle.seize_words.specs.OneMemory.Mem.{Mem, Took, value_at}
use Rattle.seize_words.specs.OneMemory.Plan.{Steps}
use Rattle.seize.specs.declared.rows.settle.Settled.{Settled}
use Rattle.seize.specs.declared.rows.reclaim_all.ReclaimAll.{ReclaimAll}
use Rattle.seize.specs.ReclaimAll.{reclaim_all_plan}
use Rattle.seize.specs.World.{World}
use Rattle.seize_acts.specs.Given.SeizeAloneAlone.{blocks_in}
use Rattle.seize_acts.proofs.Reclaims.AllReclaimed.Weights.{weight}
use Rattle.run_effects.specs.Given.TablesNodes.{deferred_word, was_left}
use Rattle.run_effects.specs.Given.TablesDeclared.node.Node.{Node}
use Rattle.many_maps.specs.Given.CallersTogether.{UnderWay}
use Rattle.many_maps.specs.Endings.{Finishing}
use Rattle.many_maps.specs.Makings.{Beginning}
use Rattle.many_maps.specs.Maps.{Standing}
use Rattle.run_shows.specs.Reclaims.Reclaims.{ReclaimingTogether}
use Rattle.run_shows.specs.Reclaims.Ends.{Terminates, Comes}
use Rattle.run_shows.proofs.Reclaims.Promised.{reclaiming_stands}
use Rattle.run_shows.proofs.Reclaims.Ends.Falls.{IsOnRoots, root_falls}
use Rattle.seize_acts.proofs.Quiet.Ends.Measures.{by_two}

module _ {K Q : Type 0} (V : Type 0) (same : K → K → Bool) (asks : Q → K → Bool) (batch_size roots : ℕ) (slot : ℕ → ℕ)
    (calls : ℕ → ℕ → Option (UnderWay K V Q)) (makers : ℕ → Option (Beginning K)) (enders : ℕ → Option (Finishing K V)) (i : ℕ) (word : batch_size < 2 ^ 64) where
  -- reclaiming all is under way
  pub record Point : Type 0 where
    pub maps : ℕ → Option (Standing K)
    pub w : World (Node K V)
    pub lists : ℕ → List ℕ
    pub c : ReclaimAll
    pub all : ReclaimingTogether V same asks batch_size roots slot maps calls makers enders w i lists c

  abbrev pub IsEnding : Point → Type 0
  IsEnding x = Terminates x.w.memory x.c

  module _ (x : Point) (m2 : Mem (Node K V)) (c2 : ReclaimAll) (told : Settled (Node K V)) (st : Steps Took value_at x.w.memory (reclaim_all_plan deferred_word was_left x.c) m2 (c2, told)) where
    -- where a step leads
    pub next_point : (y : Point) × (y.w.memory ≡ m2) × (y.c ≡ c2)
    next_point =
        let k = (reclaiming_stands V same asks batch_size roots slot x.maps calls makers enders x.w i x.lists x.c word x.all).1 m2 c2 told st in
        (record { maps = k.maps2; w = k.w2; lists = k.lists2; c = c2; all = k.next }, k.memory, refl)

  pub ends_there : (y : Point) (m2 : Mem (Node K V)) (c2 : ReclaimAll) → y.w.memory ≡ m2 → y.c ≡ c2 → IsEnding y → Terminates m2 c2
  ends_there y m2 c2 e f k = subst (λ (c : ReclaimAll). Terminates m2 c) f (subst (λ (m : Mem (Node K V)). Terminates m y.c) e k)

  -- on roots

  abbrev AtRoots : Type 0
  AtRoots = (x : Point) × IsOnRoots x.c.roots x.c.stands

  abbrev blocks_at : AtRoots → ℕ
  blocks_at x = blocks_in x.0.w.memory

  abbrev points_at : AtRoots → ℕ
  points_at x = weight x.0.c

  roots_step : (x : AtRoots) → ((y : AtRoots) → ((blocks_at y < blocks_at x) ⊎ ((blocks_at y ≤ blocks_at x) × (points_at y < points_at x))) → IsEnding y.0) → IsEnding x.0
  roots_step (x, on) below = Comes x.w.memory x.c (λ m2 c2 told st going.
      let y = next_point x m2 c2 told st in
      let f = root_falls x.c x.w.memory m2 (c2, told) x.c.stands on st going in
      ends_there y.0 m2 c2 y.1 y.2
      (below (y.0, subst (λ (d : ReclaimAll). IsOnRoots d.roots d.stands) (sym y.2) f.0)
      (subst (λ (m : Mem (Node K V)). (blocks_in m < blocks_in x.w.memory) ⊎ ((blocks_in m ≤ blocks_in x.w.memory) × (weight y.0.c < weight x.c))) (sym y.1)
      (subst (λ (d : ReclaimAll). (blocks_in m2 < blocks_in x.w.memory) ⊎ ((blocks_in m2 ≤ blocks_in x.w.memory) × (weight d < weight x.c))) (sym y.2) f.1))))

  pub roots_end : (x : Point) → IsOnRoots x.c.roots x.c.stands → IsEnding x
  roots_end x on = by_two blocks_at points_at (λ (y : AtRoots). IsEnding y.0) roots_step (x, on)

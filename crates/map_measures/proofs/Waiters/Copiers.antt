-- In blocking mode, a step of a copier that has no place to copy, or to count, and makes no table the root, leaves each copying that is not over with who ends it.
use Rattle.std.specs.Prelude.{◌^◌, cond, Some}
use Rattle.std.specs.Int.{IsPowerOfTwo}
use Rattle.std.proofs.Common.{◌≡◌, ℕ, ◌<◌, Bool, false, ap, sym, subst, ◌∙◌}
use Rattle.seize_words.specs.declared.at.At.{At}
use Rattle.seize_words.specs.declared.at.At.TheVariants.{Word}
use Rattle.seize_words.specs.OneMemory.Mem.{Mem, Took, value_at, with_word, word_at}
use Rattle.seize_words.specs.OneMemory.Plan.{Steps}
use Rattle.seize.specs.World.{World}
use Rattle.map_tables.specs.Chunks.{is_incremental}
use Rattle.map_tables.specs.TablePlaces.{at_word}
use Rattle.map_tables.specs.declared.node.Node.{Node}
use Rattle.map_tables.specs.declared.setting.Setting.{Setting}
use Rattle.map_tables.specs.declared.status.TheConstants.Status.{PROMOTED, ABORTED}
use Rattle.map_tables.specs.declared.table.Table.{Table}
use Rattle.map_tables.specs.declared.table_words.TheConstants.{STATUS}
use Rattle.map_machines.specs.Copier.{copier_plan, plan_at}
use Rattle.map_machines.specs.declared.copier.Copier.{Copier}
use Rattle.map_machines.specs.declared.copier.Copying.{Copying as Point}
use Rattle.map_machines.specs.declared.copier.Copying.TheVariants as at
use Rattle.map_machines.specs.declared.yielding.Yielding.{Yielding}
use Rattle.many_calls.specs.Given.RuleChart.{Chart}
use Rattle.many_calls.specs.Given.RuleInWorld.{IsMapIn}
use Rattle.many_calls.specs.Given.RuleMaps.{IsTable, spot_of}
use Rattle.many_calls.specs.Given.RuleRule.{IsLawful}
use Rattle.many_calls.specs.Given.RuleWords.{Blocks}
use Rattle.many_calls.specs.Given.PointsFactsCopiesBlocking.{CopierFactsBlocking, CopyingFactsBlocking, HasNoShares}
use Rattle.many_calls.specs.Given.PointsTold.{IsRowOfCopier}
use Rattle.many_calls.proofs.Claims.Knows.{fresh_knows}
use Rattle.many_calls.proofs.Given.PointsBlocking.Points.{may_copier_blocking}
use Rattle.many_calls.proofs.Given.RuleSpared.{step_spares}
use Rattle.many_calls.proofs.Given.RuleWords.TablesSeen.{word_stands}
use Rattle.seize_words.proofs.OneMemory.OneOwner.AfterWrites.{word_at-with_word}
use Rattle.seize_acts.proofs.Given.SeizeMemoryWords.Named.{same_at-refl}
use Rattle.map_measures.specs.Waits.Others.{EndsAt}
use Rattle.map_measures.specs.Waiters.Blocking.{AbortsAt}
use Rattle.map_measures.proofs.Waiters.Moves.{AllKept}
use Rattle.map_measures.proofs.Waiters.Reached.{Reached, aborts_keep, announces_keep, aside_keeps, first_stays, past_on, status_now}
use Rattle.map_measures.proofs.Waiters.Writes.{root_spares, root_word}
use Rattle.seize_words.proofs.General.{some_is as is_some_of}

-- the points of a copier at which it has no place to copy, or to count, but the one at which it makes its target the root
abbrev pub IsAside : Point → Type 0
IsAside at.Asks = Unit {0}
IsAside at.Sees = Unit {0}
IsAside at.Claims = Unit {0}
IsAside at.Replaces = Unit {0}
IsAside (at.Remakes making) = Unit {0}
IsAside (at.Succeeds table) = Unit {0}
IsAside at.Over = Unit {0}
IsAside (at.Refused fault) = Unit {0}
IsAside _ = ⊥

no_row : (stands : Point) → IsAside stands → IsRowOfCopier stands → ⊥
no_row (at.Retires settle rest) its row = its
no_row _ its row = row

no_promote : (stands : Point) → IsAside stands → stands ≡ at.Promotes → ⊥
no_promote at.Promotes its e = its
no_promote _ its e = cc e

module _ {K V : Type 0} (same : K → K → Bool) (hash : K → ℕ) (caller : ℕ) (setting : Setting) (mode : is_incremental setting.mode ≡ false) (w : World (Node K V)) (c : Chart K)
    (blocks : Blocks) (map : IsMapIn same hash setting w c blocks) (p : Copier) (m2 : Mem (Node K V)) (d : Chart K) (blocks2 : Blocks)
    (r : Reached same hash setting mode w caller c blocks map m2 d blocks2) where
  -- the status of its target is what a copier has written there
  pub written : (t said : ℕ) → IsTable c blocks p.target t → m2 ≡ with_word w.memory (at_word p.target STATUS) said → d.status p.target.turn ≡ said
  written t said target is = ap d.status (ap (λ (y : Table). y.turn) target.is)
      ∙ status_now same hash setting mode w caller c blocks map m2 d blocks2 r t target.made (past_on same hash setting mode w caller c blocks map m2 d blocks2 r t target.made) target.known said stored
    where
      at_table : At
      at_table = Word (blocks.table t) STATUS

      word : at_word p.target STATUS ≡ at_table
      word = word_stands hash w.memory c blocks setting.root map.map.shows p.target t target STATUS

      stored : word_at m2 at_table ≡ Some said
      stored =
          ap (λ (n : Mem (Node K V)). word_at n at_table) (is ∙ ap (λ (x : At). with_word w.memory x said) word)
          ∙ word_at-with_word w.memory at_table said at_table (is_some_of _ _ (map.map.shows.tables t target.made target.known).status)
          ∙ ap (λ (b : Bool). cond b (Some said) (word_at w.memory at_table)) (same_at-refl at_table)

module _ {K V : Type 0} (same : K → K → Bool) (hash : K → ℕ) (fits : (k : K) → hash k < 2 ^ 64) (lawful : IsLawful same (spot_of hash)) (caller : ℕ) (setting : Setting)
    (mode : is_incremental setting.mode ≡ false) (initial : IsPowerOfTwo setting.initial) (w : World (Node K V)) (c : Chart K) (blocks : Blocks) (map : IsMapIn same hash setting w c blocks)
    (p : Copier) (facts : CopierFactsBlocking same hash w caller setting c blocks p) (m2 : Mem (Node K V)) (end : Copier × Yielding (Node K V) Table)
    (steps : Steps Took value_at w.memory (copier_plan hash p) m2 end) (d : Chart K) (blocks2 : Blocks) (r : Reached same hash setting mode w caller c blocks map m2 d blocks2)
    (P A G : ℕ → Type 0) where
  -- the root is as it was, but where it makes its target the root
  pub first_as_before : (IsRowOfCopier p.stands → ⊥) → (p.stands ≡ at.Promotes → ⊥) → d.first ≡ c.first
  first_as_before row other =
      first_stays same hash setting mode w caller c blocks map m2 d blocks2 r
      (step_spares (root_word same hash w caller setting c blocks map) tt w.memory _ map.map.shows.root_there (copier_plan hash p) m2 end
      (root_spares same hash w caller setting c blocks map p (fresh_knows same hash w caller setting c blocks map p p.stands facts.point row) other)
      (may_copier_blocking same hash fits lawful caller setting mode initial w c blocks map p facts row) steps
      ∙ sym map.map.shows.root_there)

  -- it has no part in a copying
  idle_at : (stands : Point) → IsAside stands → CopyingFactsBlocking same hash w caller setting c blocks p stands → HasNoShares same hash w caller setting c blocks
  idle_at at.Asks its (t, rests) = rests.2
  idle_at at.Sees its (t, rests) = rests.2
  idle_at at.Claims its (t, rests, small) = rests.2
  idle_at at.Replaces its (t, rests, gone) = rests.2
  idle_at (at.Remakes making) its (t, rests, gone, new) = rests.2
  idle_at (at.Succeeds table) its (s, unlinked, is) = unlinked.2
  idle_at at.Over its (target, none) = none
  idle_at (at.Refused fault) its none = none
  idle_at _ its facts = absurd its

  pub copier_aside : IsAside p.stands → AllKept P A G c (λ t. ⊥) (λ t. ⊥) → AllKept P A G d (λ t. ⊥) (λ t. ⊥)
  copier_aside its all =
      aside_keeps same hash setting mode w caller c blocks map m2 d blocks2 r P A G (first_as_before (no_row p.stands its) (no_promote p.stands its)) (idle_at p.stands its facts.point)
      (λ t. ⊥) (λ t. ⊥) all

  -- where it says that its copying was given up,
  pub copier_aborts : p.stands ≡ at.Aborts → AllKept P A G c (λ t. EndsAt c p at.Aborts t) (λ t. AbortsAt c p at.Aborts t) → AllKept P A G d (λ t. ⊥) (λ t. ⊥)
  copier_aborts here all =
      by (subst (λ (q : Point). CopyingFactsBlocking same hash w caller setting c blocks p q) here facts.point)
      (subst (λ (q : Point). Steps Took value_at w.memory (plan_at hash p q) m2 end) here steps)
    where
      first : d.first ≡ c.first
      first = first_as_before (λ row. subst (λ (q : Point). IsRowOfCopier q) here row) (λ e. (let both = sym here ∙ e in cc both))

      by : CopyingFactsBlocking same hash w caller setting c blocks p at.Aborts → Steps Took value_at w.memory (plan_at hash p at.Aborts) m2 end → AllKept P A G d (λ t. ⊥) (λ t. ⊥)
      by (t, gave) s =
          aborts_keep same hash setting mode w caller c blocks map m2 d blocks2 r P A G first gave.0.2 p (written same hash caller setting mode w c blocks map p m2 d blocks2 r t ABORTED gave.0.0.2 s.1.1) all

  -- and where it says that it is over
  pub copier_announces : p.stands ≡ at.Announces → AllKept P A G c (λ t. EndsAt c p at.Announces t) (λ t. AbortsAt c p at.Announces t) → AllKept P A G d (λ t. ⊥) (λ t. ⊥)
  copier_announces here all =
      by (subst (λ (q : Point). CopyingFactsBlocking same hash w caller setting c blocks p q) here facts.point)
      (subst (λ (q : Point). Steps Took value_at w.memory (plan_at hash p q) m2 end) here steps)
    where
      first : d.first ≡ c.first
      first = first_as_before (λ row. subst (λ (q : Point). IsRowOfCopier q) here row) (λ e. (let both = sym here ∙ e in cc both))

      by : CopyingFactsBlocking same hash w caller setting c blocks p at.Announces → Steps Took value_at w.memory (plan_at hash p at.Announces) m2 end → AllKept P A G d (λ t. ⊥) (λ t. ⊥)
      by (s, source, unlinked) taken =
          announces_keep same hash setting mode w caller c blocks map m2 d blocks2 r P A G first unlinked.2 p (written same hash caller setting mode w c blocks map p m2 d blocks2 r c.first PROMOTED unlinked.1 taken.1.1) all

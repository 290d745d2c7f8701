-- What a sweep that is alone is asked for, and told: it is alone again, and what has run since it began.
use Rattle.std.specs.Prelude.{◌≡◌, ◌≢◌, ℕ, ◌<◌, Bool, true, false, nat_lt, cond, List, ◌∷◌, if◌then◌else◌}
use Rattle.std.proofs.Common.{refl, ap, sym, subst, arith}
use Rattle.seize.specs.World.{World}
use Rattle.map_tables.specs.Chunks.{is_incremental}
use Rattle.map_tables.specs.declared.node.Node.{Node}
use Rattle.map_tables.specs.declared.setting.Setting.{Setting}
use Rattle.papaya_raw.specs.Given.SweepsSweepPoints.{standing, further, next_at, after_next, reply_at}
use Rattle.papaya_raw.specs.Given.ReservesDeclared.sweep.Sweeping.{Sweeping}
use Rattle.papaya_raw.specs.Given.ReservesDeclared.sweep.Sweeping.TheVariants as at
use Rattle.map_measures.specs.Given.RuleChart.{Chart}
use Rattle.map_measures.specs.Given.RuleWords.{Blocks}
use Rattle.map_measures.proofs.Given.RuleWorld.Hands.{current_known}
use Rattle.owner_facts.specs.Given.PointsSteps.{AreLawful}
use Rattle.owner_facts.specs.Given.CallersOverAll.{verdict, CallOverAll, gone_on, with_verdict}
use Rattle.owner_facts.specs.Given.CallersSights.{Visible}
use Rattle.owner_facts.specs.Given.CallersTogether.{OverAll}
use Rattle.owner_whole.specs.Whole.Contents.{KeepsPairs}
use Rattle.owner_whole.specs.Whole.Owner.{IsAlone}
use Rattle.owner_whole.specs.Whole.SweptPairs.{about_to_go}
use Rattle.owner_whole.specs.Whole.WholeSweeps.{NamesPairOf, IsReplied, SweepsRepliedAlone}
use Rattle.owner_whole.proofs.Whole.Sweeps.Onward.{Onward, onward_same, onward_kept, onward_gone, swept_on}
use Rattle.owner_whole.proofs.Whole.Sweeps.Over.{further_by}
use Rattle.owner_whole.proofs.Whole.Sweeps.Told.{next_on, asks_new, further_none, replied_on}

module _ {K V Q : Type 0} (same : K → K → Bool) (hash : K → ℕ) (asks : Q → K → Bool) (setting : Setting) (slot : ℕ → ℕ) (lawful : AreLawful same hash)
    (w : World (Node K V)) (c : Chart K) (blocks : Blocks) (sights : ℕ → Visible) (o : CallOverAll) (a : IsAlone {Q = Q} same hash asks setting slot w c blocks sights (OverAll o)) where
  abbrev b : Bool
  b = is_incremental setting.mode

  low : (n : ℕ) → c.current n ≡ true → n < c.stored
  low n is = (current_known same hash setting w c blocks a.together.ground.map.map.rule a.together.ground.map.map.shows n is).0

  keeps_same : KeepsPairs w.memory c blocks w.memory c blocks
  keeps_same = record { stored = omega arith; were = λ n l e. e; values = λ n l e. refl }

  -- asked for the next pair
  module _ (is : o.sweep.stands ≡ at.Ready) (asked : List ℕ) where
    ready_onward : Onward b w.memory c blocks asked o w.memory c blocks asked (gone_on o (next_at at.Ready o.sweep))
    ready_onward = by (nat_lt o.sweep.place o.sweep.table.len)
      where
        none : (n : ℕ) → about_to_go o.sweep.stands o.told n ≡ 0
        none n = ap (λ (x : Sweeping). about_to_go x o.told n) is

        by : (more : Bool) → Onward b w.memory c blocks asked o w.memory c blocks asked (gone_on o (standing o.sweep (if more then at.Words else at.Over)))
        by true = onward_same b w.memory w.memory c blocks asked o (standing o.sweep at.Words) keeps_same refl (λ once early. absurd early) (λ n. sym (none n))
        by false = onward_same b w.memory w.memory c blocks asked o (standing o.sweep at.Over) keeps_same refl (λ once early. absurd early) (λ n. sym (none n))

    next_onward : Onward b w.memory c blocks asked o w.memory c blocks asked (gone_on o (after_next o.sweep))
    next_onward = subst (λ (x : Sweeping). Onward b w.memory c blocks asked o w.memory c blocks asked (gone_on o (next_at x o.sweep))) (sym is) ready_onward

  -- told whether to keep one
  module _ (word : ℕ) (is : o.sweep.stands ≡ at.Asks word) (n : ℕ) (k : K) (v : V) (it : NamesPairOf hash w.memory c blocks word n k v) (asked : List ℕ) where
    reply_onward : (keeps : Bool)
        → Onward b w.memory c blocks asked o w.memory c blocks (n ∷ asked) (record { began = o.began; entered = o.entered; done = cond keeps (n ∷ o.done) o.done; told = verdict n keeps; sweep = reply_at (at.Asks word) o.sweep keeps })
    reply_onward true =
        onward_kept b w.memory c blocks asked o word n is it.is_there (further o.sweep) refl (further_none same hash asks setting slot lawful w c blocks sights o a word is n k v it)
        (λ x. further_by (λ y. y ≢ at.Tries x) o.sweep (λ e. cc e) (λ e. cc e) (λ e. cc e))
    reply_onward false = onward_gone b w.memory c blocks asked o word n is it.is_there (standing o.sweep (at.Tries word)) refl refl

    told_onward : (keeps : Bool) → Onward b w.memory c blocks asked o w.memory c blocks (n ∷ asked) (with_verdict o n keeps)
    told_onward keeps =
        subst (λ (x : Sweeping). Onward b w.memory c blocks asked o w.memory c blocks (n ∷ asked)
        (record { began = o.began; entered = o.entered; done = cond keeps (n ∷ o.done) o.done; told = verdict n keeps; sweep = reply_at x o.sweep keeps })) (sym is) (reply_onward keeps)

  pub told_on : IsReplied V same hash asks setting slot w c blocks sights o
  told_on = record {
    next = next_on same hash asks setting slot lawful w c blocks sights o a;
    asks_about = λ word is. asks_new same hash asks setting slot lawful w c blocks sights o a word is;
    replied = λ word n k v is it keeps. (
      replied_on same hash asks setting slot lawful w c blocks sights o a word is n k v it keeps,
      λ m0 c0 blocks0 asked. swept_on b m0 c0 blocks0 w.memory c blocks asked o w.memory c blocks (n ∷ asked) (with_verdict o n keeps) low (told_onward word is n k v it asked keeps),
    );
    next_runs = λ is m0 c0 blocks0 asked. swept_on b m0 c0 blocks0 w.memory c blocks asked o w.memory c blocks asked (gone_on o (after_next o.sweep)) low (next_onward is asked);
  }

module _ {K V Q : Type 0} (same : K → K → Bool) (hash : K → ℕ) (asks : Q → K → Bool) (setting : Setting) (slot : ℕ → ℕ) where
  pub sweeps_told_alone : SweepsRepliedAlone V same hash asks setting slot
  sweeps_told_alone = told_on same hash asks setting slot

-- What is promised of what a sweep comes to, over its own steps, over those of others, and over what it is told.
use Rattle.std.specs.Prelude.{◌≡◌, ℕ, ◌≤◌, Bool, true, false, List, [], ◌∷◌}
use Rattle.std.specs.Int.{IsPowerOfTwo}
use Rattle.map_facts.specs.Given.SeizeWordsMem.{Mem, Took, value_at}
use Rattle.map_facts.specs.Given.SeizeWordsPlan.{Steps}
use Rattle.map_facts.specs.Given.SeizeWorld.{World}
use Rattle.map_facts.specs.Given.TablesChunks.{is_incremental}
use Rattle.map_facts.specs.Given.TablesDeclared.node.Node.{Node}
use Rattle.map_facts.specs.Given.TablesDeclared.setting.Setting.{Setting}
use Rattle.map_facts.specs.Given.SweepsSweep.{sweep_plan}
use Rattle.map_facts.specs.Given.SweepsSweepPoints.{after_next, after_reply}
use Rattle.map_facts.specs.Given.ReservesDeclared.sweep.Sweep.{Sweep}
use Rattle.map_facts.specs.Given.ReservesDeclared.sweep.Sweeping.{Sweeping}
use Rattle.map_facts.specs.Given.ReservesDeclared.sweep.Sweeping.TheVariants as at
use Rattle.map_facts.specs.Given.ReservesDeclared.sweep.Swept.{Swept}
use Rattle.map_facts.specs.Given.ReservesDeclared.sweep.Swept.TheVariants.{Pair}
use Rattle.map_facts.specs.Given.RuleChart.{Chart}
use Rattle.map_facts.specs.Given.RuleWords.{Blocks}
use Rattle.map_facts.specs.Given.RuleMoments.{Moments}
use Rattle.map_facts.specs.Given.RuleInWorld.{IsMapIn, StepSpec}
use Rattle.map_facts.specs.Steps.{AreLawful}
use Rattle.map_facts_late.specs.Left.{ClaimsAreFew}
use Rattle.map_facts_late.specs.Covers.{NamesPair, CoversAt}
use Rattle.map_facts_late.specs.FactsSweeps.{SweepFacts}
use Rattle.map_facts_late.specs.ToldSweeps.{IsRowOfSweep, SweepOutcome}

module _ {K : Type 0} (hash : K → ℕ) (c : Chart K) (blocks : Blocks) (done done2 : List ℕ) where
  -- a pair is done that the word names
  abbrev pub Adds : ℕ → Type 0
  Adds word = (n : ℕ) × NamesPair hash c blocks word n × (done2 ≡ n ∷ done)

  -- what is done after a step: a pair more where a walk shows one
  abbrev pub DoneBy : {T : Type 0} → Swept T → Type 0
  DoneBy (Pair word) = Adds word
  DoneBy _ = done2 ≡ done

  -- until it goes over a table, nothing is done; from then on it counts from the same moment
  abbrev pub DoneAt : {T : Type 0} → ℕ → ℕ → Swept T → Sweeping → Type 0
  DoneAt entered entered2 end at.Reads = done2 ≡ []
  DoneAt entered entered2 end at.Follows = done2 ≡ []
  DoneAt entered entered2 end (at.Copies copier) = done2 ≡ []
  DoneAt entered entered2 end _ = (entered2 ≡ entered) × DoneBy end

  -- after a reply: a pair more where one is to be kept
  abbrev pub DoneReplied : Bool → Sweeping → Type 0
  DoneReplied true (at.Asks word) = Adds word
  DoneReplied _ _ = done2 ≡ done

-- it comes to more, from the same moment on, or from a later one
abbrev pub CoversOn : {K T : Type 0} → (K → ℕ) → ℕ → Chart K → Blocks → Sweep → Chart K → Blocks → Sweep → Swept T → Type 0
CoversOn hash began c blocks p c2 blocks2 p2 end =
    (entered : ℕ) (done : List ℕ) → began ≤ entered → CoversAt hash c blocks p entered done p.stands
    → (entered2 : ℕ) × (done2 : List ℕ) × (began ≤ entered2) × DoneAt hash c2 blocks2 done done2 entered entered2 end p.stands × CoversAt hash c2 blocks2 p2 entered2 done2 p2.stands

module _ {K : Type 0} (V : Type 0) (same : K → K → Bool) (hash : K → ℕ) where
  -- By its own steps, a sweep that began at this moment comes to more of its pairs.
  abbrev pub SweepsCover : Type 0
  SweepsCover =
      AreLawful same hash → (setting : Setting) → IsPowerOfTwo setting.initial
      → (w : World (Node K V)) (caller : ℕ) (c : Chart K) (blocks : Blocks) (began : ℕ) (p : Sweep)
      → IsMapIn same hash setting w c blocks → Moments (is_incremental setting.mode) c → (is_incremental setting.mode ≡ false → ClaimsAreFew c) → began ≤ c.now
      → SweepFacts same hash w caller setting c blocks began p → (IsRowOfSweep p.stands → ⊥)
      → (m2 : Mem (Node K V)) (p2 : Sweep) (end : Swept (Node K V)) → Steps Took value_at w.memory (sweep_plan hash p) m2 (p2, end)
      → StepSpec same hash setting caller w c blocks m2 (λ w2 c2 blocks2. SweepOutcome same hash caller setting began c blocks p w2 c2 blocks2 p2 end × CoversOn hash began c blocks p c2 blocks2 p2 end)

  -- By each step of another caller it stays at what it has come to.
  abbrev pub SweepsStayCovered : Type 0
  SweepsStayCovered =
      AreLawful same hash → (setting : Setting) (w : World (Node K V)) (caller : ℕ) (c : Chart K) (blocks : Blocks) (began : ℕ) (p : Sweep)
      → IsMapIn same hash setting w c blocks → Moments (is_incremental setting.mode) c → SweepFacts same hash w caller setting c blocks began p
      → (other : ℕ) (m2 : Mem (Node K V)) (went : StepSpec same hash setting other w c blocks m2 (λ w2 c2 blocks2. Unit {0}))
      → (entered : ℕ) (done : List ℕ) → CoversAt hash c blocks p entered done p.stands → CoversAt hash went.c2 went.blocks2 p entered done p.stands

  -- By what it is asked for, and told, it comes to more, too.
  abbrev pub SweepsAreRepliedOn : Type 0
  SweepsAreRepliedOn =
      (setting : Setting) (w : World (Node K V)) (caller : ℕ) (c : Chart K) (blocks : Blocks) (began : ℕ) (p : Sweep)
      → IsMapIn same hash setting w c blocks → SweepFacts same hash w caller setting c blocks began p
      → (entered : ℕ) (done : List ℕ) → CoversAt hash c blocks p entered done p.stands
      → CoversAt hash c blocks (after_next p) entered done (after_next p).stands
      × ((keeps : Bool) → (done2 : List ℕ) × DoneReplied hash c blocks done done2 keeps p.stands × CoversAt hash c blocks (after_reply p keeps) entered done2 (after_reply p keeps).stands)

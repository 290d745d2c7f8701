-- What a list of acts is made of: acts, what a caller does that reclaims all, while nobody has anything under way, and choices of numbers. Where it stands, when
-- each may be done, and where it leads.
use Rattle.std.specs.Prelude.{◌≡◌, ◌⊎◌, ℕ, ◌<◌, ◌≤◌, ◌^◌, ◌++◌, ◌∷◌, [], Bool, true, false, List, Option, Some, None}
use Rattle.std.specs.Option.{is_none}
use Rattle.std.proofs.Common.{inl, inr}
use Rattle.run_shows.specs.Given.SeizeWordsMem.{Mem, word_at}
use Rattle.run_shows.specs.Given.SeizeWordsDeclared.at.At.TheVariants.{Slot}
use Rattle.run_shows.specs.Given.SeizeReclaimAll.{reclaiming_all, clearing}
use Rattle.run_shows.specs.Given.SeizeWorld.{Use, Vacant}
use Rattle.run_shows.specs.Given.SeizeDeclared.rows.reclaim_all.ReclaimAll.{ReclaimAll}
use Rattle.run_shows.specs.Given.SeizeDeclared.rows.settle.Settled.{Settled}
use Rattle.run_shows.specs.Given.SeizeDeclared.rows.settle.Settled.TheVariants as settled
use Rattle.run_shows.specs.Given.SeizeDeclared.states.TheConstants.{HEAD, LAST_SLOT}
use Rattle.seize_acts.specs.Acts.Acts.{rests}
use Rattle.seize_acts.specs.Acts.Answers.{Grant, then_on}
use Rattle.run_shows.specs.Given.TablesDeclared.node.Node.{Node}
use Rattle.run_shows.specs.Reclaims.Left.{LeftWithEndings}
use Rattle.run_shows.specs.Reclaims.Slots.{HasNoBatch}
use Rattle.many_acts.specs.Acts.Acts.{Act, Answer, Nothing, OfReclaiming}
use Rattle.many_acts.specs.Acts.Leads.{MayBe, AllStand, Led}
use Rattle.many_acts.specs.Acts.Reclaiming.{IsReclaimingAll, ReclaimedOn, reclaiming_steps}
use Rattle.run_shows.specs.Scenes.Scene.{Scene}

pub data Doing (K V S : Type 0) : Type 0 where
  Does : Act K V S → Doing K V S
  BeginsReclaiming : ℕ → Doing K V S  -- this caller begins to reclaim all, with the slots
  BeginsClearing : ℕ → Doing K V S  -- or with the roots, where no slot is in use and none has a batch
  StepsReclaiming : Grant → Doing K V S  -- it takes its next step
  Chooses : ℕ → Doing K V S  -- a choice joins those that are left in the memory: nobody's, and no step

abbrev pub is_vacant : Use → Bool
is_vacant Vacant = true
is_vacant _ = false

module _ {K V : Type 0} where
  -- these lists are behind the roots that are nobody's, and each other one of these is free
  abbrev pub IsLeft : ℕ → Scene K V → (ℕ → List ℕ) → Type 0
  IsLeft roots s lists = LeftWithEndings roots s.world s.maps s.makers s.enders lists

  -- nobody has a call, makes a map or ends one, and no row is under way
  pub record AllAreFree (s : Scene K V) : Type 0 where
    pub no_call : (m i : ℕ) → is_none (s.calls m i) ≡ true
    pub no_making : (i : ℕ) → is_none (s.makers i) ≡ true
    pub no_ending : (i : ℕ) → is_none (s.enders i) ≡ true
    pub rest : (i : ℕ) → rests (s.world.row i) ≡ true

  -- no slot is in use, and none has a batch
  pub record SlotsAreFree (s : Scene K V) : Type 0 where
    pub vacant : (t : ℕ) → is_vacant (s.world.uses t) ≡ true
    pub none : (t : ℕ) → t ≤ LAST_SLOT → HasNoBatch s.world t

-- the memory with a further choice, and the scene that has it
abbrev pub memory_chosen : {T : Type 0} → ℕ → Mem T → Mem T
memory_chosen choice m = record m { choices = m.choices ++ choice ∷ [] }

abbrev pub scene_chosen : {K V : Type 0} → ℕ → Scene K V → Scene K V
scene_chosen choice s = record s { world = record s.world { memory = memory_chosen choice s.world.memory } }

-- who reclaims all goes on, or has come to its end
abbrev pub still : {T : Type 0} → Settled T → ℕ × ReclaimAll → Option (ℕ × ReclaimAll)
still settled.Done it = None
still told it = Some it

module _ {K S : Type 0} (V : Type 0) (same : K → K → Bool) (hash : S → K → ℕ) (batch_size roots : ℕ) (slot : ℕ → ℕ) where
  -- The promise of one act: what ended maps have left stays there, whichever comes to it.
  abbrev pub ActsLeaveIt : Type 0
  ActsLeaveIt =
      (s n : Scene K V) → AllStand same hash batch_size roots slot s → (act : Act K V S) → MayBe same hash batch_size roots slot act s
      → (told : Answer K V) → Led same hash batch_size roots slot act s told n → (lists : ℕ → List ℕ) → IsLeft roots s lists → (lists2 : ℕ → List ℕ) × IsLeft roots n lists2

  -- this caller reclaims all, with this machine, and these lists are behind the roots still
  abbrev pub IsReclaimed : Scene K V → Type 0
  IsReclaimed s = (i : ℕ) × (lists : ℕ → List ℕ) × (c : ReclaimAll) × IsReclaimingAll V same batch_size roots slot s i lists c

  -- A scene in which the invariant of all holds. What ended maps have left is behind roots that are nobody's, or a caller reclaims all.
  abbrev pub Stage : Type 0
  Stage = (s : Scene K V) × AllStand same hash batch_size roots slot s × (((lists : ℕ → List ℕ) × IsLeft roots s lists) ⊎ IsReclaimed s)

  -- who reclaims all there, and how far it has come
  abbrev pub reclaiming : Stage → Option (ℕ × ReclaimAll)
  reclaiming (s, all, inl left) = None
  reclaiming (s, all, inr (i, lists, c, idle)) = Some (i, c)

  -- what is behind the roots there
  abbrev pub behind : Stage → ℕ → List ℕ
  behind (s, all, inl (lists, left)) = lists
  behind (s, all, inr (i, lists, c, idle)) = lists

  -- When each may be done. Acts may be made while nobody reclaims all. Any caller may begin to where nobody has anything under way, with the slots if one was ever
  -- taken; and takes a step where the memory may choose so.
  abbrev pub MayDo : Doing K V S → Stage → Type 0
  MayDo (Does act) p = (is_none (reclaiming p) ≡ true) × MayBe same hash batch_size roots slot act p.0
  MayDo (BeginsReclaiming i) p =
      (is_none (reclaiming p) ≡ true) × (batch_size < 2 ^ 64) × AllAreFree p.0 × (is_none (word_at p.0.world.memory (Slot 0 HEAD)) ≡ false)
  MayDo (BeginsClearing i) p = (is_none (reclaiming p) ≡ true) × (batch_size < 2 ^ 64) × AllAreFree p.0 × SlotsAreFree p.0
  MayDo (StepsReclaiming g) p = (batch_size < 2 ^ 64) × (is_none (then_on (reclaiming p) (λ it. reclaiming_steps p.0 g it.1)) ≡ false)
  MayDo (Chooses choice) p = is_none (reclaiming p) ≡ true

  -- a caller has begun to reclaim all with this machine
  abbrev pub HasBegun : ℕ → ReclaimAll → Stage → Answer K V → Stage → Type 0
  HasBegun i c p told n = (told ≡ Nothing) × (n.0 ≡ p.0) × (behind n ≡ behind p) × (reclaiming n ≡ Some (i, c))

  -- It has taken a step, as its law says, and goes on; or it has come to its end.
  pub record HasStepped (g : Grant) (p : Stage) (told : Answer K V) (n : Stage) : Type 0 where
    pub caller : ℕ
    pub machine : ReclaimAll
    pub here : reclaiming p ≡ Some (caller, machine)
    pub end : Settled (Node K V)
    pub lists : ℕ → List ℕ
    pub next : ReclaimAll
    pub did : ReclaimedOn V same batch_size roots slot p.0 caller (behind p) machine g end n.0 lists next
    pub tells : told ≡ OfReclaiming end
    pub goes_on : reclaiming n ≡ still end (caller, next)
    pub behind_is : (end ≡ settled.Done → ⊥) → behind n ≡ lists

  -- from this stage it has led to that one, and has told this
  abbrev pub HasDone : Doing K V S → Stage → Answer K V → Stage → Type 0
  HasDone (Does act) p told n = Led same hash batch_size roots slot act p.0 told n.0 × (reclaiming n ≡ None)
  HasDone (BeginsReclaiming i) p told n = HasBegun i (reclaiming_all batch_size roots) p told n
  HasDone (BeginsClearing i) p told n = HasBegun i (clearing roots) p told n
  HasDone (StepsReclaiming g) p told n = HasStepped g p told n
  HasDone (Chooses choice) p told n = (told ≡ Nothing) × (n.0 ≡ scene_chosen choice p.0) × (behind n ≡ behind p) × (reclaiming n ≡ None)

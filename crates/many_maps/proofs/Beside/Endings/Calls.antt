-- A step of a call on another map spares a map that ends.
use Rattle.std.specs.Prelude.{◌≡◌, ◌≢◌, ℕ, Bool, Some}
use Rattle.std.proofs.Common.{refl, ap, sym, subst, ◌∙◌, inl, inr}
use Rattle.many_calls.specs.Given.SeizeWordsDeclared.at.At.{At}
use Rattle.many_calls.specs.Given.SeizeWordsDeclared.at.At.TheVariants.{Root, Used, Entry, Word}
use Rattle.many_calls.specs.Given.SeizeWordsMem.{Mem, value_at, word_at}
use Rattle.many_calls.specs.Given.SeizeDeclared.states.TheConstants.{NEXT}
use Rattle.many_calls.specs.Given.SeizeLaw.{owner_of}
use Rattle.many_calls.specs.Given.SeizeWorld.{World, Row, Hand, NoBlock, Making, InUse, Parting, Cutting, Handed, LeftTo, IsOnto}
use Rattle.many_calls.specs.Given.TablesNodes.{deferred_word}
use Rattle.many_calls.specs.Given.TablesDeclared.node.Node.{Node}
use Rattle.many_calls.specs.Given.TablesDeclared.node.Node.TheVariants as node
use Rattle.many_calls.specs.Given.TablesDeclared.setting.Setting.{Setting}
use Rattle.many_calls.specs.Given.RuleBeside.{KeptBeside}
use Rattle.many_calls.specs.Given.RuleChart.{Chart}
use Rattle.many_calls.specs.Given.RuleWords.{Blocks}
use Rattle.many_calls.specs.Given.RuleInWorld.{IsOut, IsKnownBlock, IsIts, InFootprint, StepSpec}
use Rattle.many_calls.proofs.Given.RuleWorld.BesideKept.{steps_spare_others}
use Rattle.many_calls.proofs.Given.RuleWorld.WentTold.{went_as}
use Rattle.many_calls.specs.Kept.{IsMaking}
use Rattle.many_calls.specs.Together.{CameAbout}
use Rattle.many_maps.proofs.Beside.Endings.Spares.{IsOfEnd, IsSpared, SparesEnd, end_not_made, end_there}
use Rattle.many_maps.proofs.Beside.Maps.OtherSteps.{making_not_out}
use Rattle.many_calls.proofs.Rows.Behind.{events_back}
use Rattle.many_calls.proofs.Together.Came.{came_reached, came_on}
use Rattle.many_calls.proofs.Together.Users.{events_rows}

module _ {K V : Type 0} (same : K → K → Bool) (hash : K → ℕ) (other : Setting) (i : ℕ) (w : World (Node K V)) (c : Chart K) (blocks : Blocks)
    (m2 : Mem (Node K V)) (Told : World (Node K V) → Chart K → Blocks → Type 0) (went : StepSpec same hash other i w c blocks m2 Told) (came : CameAbout other.batch_size w)
    (its_counter : IsMaking (w.hand other.counter)) (its_out : (b : ℕ) → IsKnownBlock c blocks b → IsOut (w.hand b)) (its_own : (b : ℕ) → IsKnownBlock c blocks b → owner_of b w.log ≡ other.counter)
    (owner root ender : ℕ) (counters : owner ≢ other.counter) (roots : root ≢ other.root) where
  -- such a block is none of the step
  known_not_end : (b : ℕ) → IsKnownBlock c blocks b → IsOfEnd w owner ender b → ⊥
  known_not_end b known (inl used) = counters (sym used.1 ∙ its_own b known)
  known_not_end b known (inr left) = subst IsOut left (its_out b known)

  not_its : (b : ℕ) → IsOfEnd w owner ender b → IsIts i w c blocks b → ⊥
  not_its b of (inl own) = end_not_made w owner ender b of i own.0
  not_its b of (inr known) = known_not_end b known of

  -- nor is the counter
  counter_not_its : value_at w.memory owner ≡ Some node.Shards → IsMaking (w.hand owner) → IsIts i w c blocks owner → ⊥
  counter_not_its is making (inl own) = own.1 is
  counter_not_its is making (inr known) = making_not_out (w.hand owner) making (its_out owner known)

  beside : (b : ℕ) (value : Node K V) → value_at w.memory b ≡ Some value → (IsIts i w c blocks b → ⊥) → KeptBeside i w c blocks b w went.w2
  beside b value is none =
      steps_spare_others V same hash other i w c blocks m2 (went_as same hash other i w c blocks m2 Told (λ w3 c3 b3. Unit {0}) (λ w3 c3 b3 map moved blocks_same told. tt) went) b value is none

  word_stays : (at : At) (word : ℕ) → (InFootprint other i w c blocks at → ⊥) → word_at w.memory at ≡ Some word → word_at went.w2.memory at ≡ Some word
  word_stays at word apart is = ap (λ (m : Mem (Node K V)). word_at m at) went.memory ∙ went.frame.words at word is apart

  -- a block that is none of the step, and not its counter, has its words
  not_written : (b field : ℕ) → (IsIts i w c blocks b → ⊥) → b ≢ other.counter → InFootprint other i w c blocks (Word b field) → ⊥
  not_written b field none ne (inl table) = none (inr (inl table))
  not_written b field none ne (inr (inl own)) = none (inl own)
  not_written b field none ne (inr (inr is)) = ne is

  spared : (b : ℕ) (value : Node K V) → value_at w.memory b ≡ Some value → (IsIts i w c blocks b → ⊥) → b ≢ other.counter → IsSpared w went.w2 b
  spared b value is none ne = let k = beside b value is none in record {
    value = k.value;
    words = λ field word no here. word_stays (Word b field) word (not_written b field none ne) here;
    hand = k.hand;
    owner = k.owner;
    orphan = k.orphan;
    over = k.over;
  }

  not_counter : (b : ℕ) → IsOfEnd w owner ender b → b ≢ other.counter
  not_counter b of e = making_not_end (w.hand b) refl (subst (λ (x : ℕ). IsMaking (w.hand x)) (sym e) its_counter)
    where
      making_not_end : (h : Hand) → w.hand b ≡ h → IsMaking h → ⊥
      making_not_end NoBlock is making = making
      making_not_end (Making j) is making = end_not_made w owner ender b of j is
      making_not_end (InUse o) is making = making
      making_not_end (Parting j) is making = making
      making_not_end (Cutting j) is making = making
      making_not_end Handed is making = making
      making_not_end (LeftTo j) is making = making

  pub call_spares_end : SparesEnd w went.w2 other.batch_size owner root ender
  call_spares_end = record {
    came = came_on other.batch_size w went.w2 went.events came went.runs;
    blocks = λ b of. let h = end_there other.batch_size w came owner ender b of in spared b h.0 h.1 (not_its b of) (not_counter b of);
    counter = λ is making. spared owner node.Shards is (counter_not_its is making) counters;
    links = λ b word left is. word_stays (Entry b NEXT) word (λ making. (cc (left, making))) is;
    behind = λ b x used. events_back deferred_word other.batch_size x b went.events w went.w2 (came_reached other.batch_size w came) went.users went.runs;
    onto = λ b j used on. subst (IsOnto b) (ap (λ (f : ℕ → Row). f j) (events_rows other.batch_size went.events w went.w2 went.users went.runs)) on;
    root_leads = λ word is. word_stays (Root root) word roots is;
    root_used = λ is. word_stays (Used root) 1 (λ none. none) is;
  }

-- A step of a call that is none of a row of the collector: the shards say so much more as the call has counted.
use Rattle.std.specs.Prelude.{◌≡◌, ℕ, suc, ◌+◌, ◌%◌, ◌^◌, Bool, Some, bit_and}
use Rattle.std.proofs.Common.{refl, ap, sym, subst}
use Rattle.many_maps.specs.Given.SeizeWordsDeclared.at.At.{At}
use Rattle.many_maps.specs.Given.SeizeWordsDeclared.at.At.TheVariants.{Word}
use Rattle.many_maps.specs.Given.SeizeWordsDeclared.fault.Fault.{Fault}
use Rattle.many_maps.specs.Given.SeizeWordsMem.{Mem, Can, Took, value_at, word_at, with_word}
use Rattle.many_maps.specs.Given.SeizeWordsPlan.{Now, May, Steps}
use Rattle.many_maps.proofs.Given.SeizeWordsOneOwner.Operations.{added}
use Rattle.many_maps.specs.Given.SeizeWorld.{World}
use Rattle.many_maps.specs.Given.TablesCounts.{count_change}
use Rattle.many_maps.specs.Given.RawCall.{call_plan, plan_at, disposed}
use Rattle.many_maps.specs.Given.RawCallPoints.{counted}
use Rattle.many_maps.specs.Given.ResizeDispose as dispose
use Rattle.many_maps.specs.Given.TablesDeclared.node.Node.{Node}
use Rattle.many_maps.specs.Given.TablesDeclared.setting.Setting.{Setting}
use Rattle.many_maps.specs.Given.RawDeclared.machines.answer.KeyAnswer.{KeyAnswer}
use Rattle.many_maps.specs.Given.RawDeclared.machines.answer.Called.{Called}
use Rattle.many_maps.specs.Given.RawDeclared.machines.answer.Called.TheVariants as called
use Rattle.many_maps.specs.Given.RawDeclared.machines.call.KeyCall.{KeyCall}
use Rattle.many_maps.specs.Given.RawDeclared.machines.call.Calling.{Calling}
use Rattle.many_maps.specs.Given.RawDeclared.machines.call.Calling.TheVariants as at
use Rattle.many_maps.specs.Given.ResizeDeclared.dispose.Dispose.{Dispose}
use Rattle.many_maps.specs.Given.ResizeDeclared.dispose.Disposing.{Disposing}
use Rattle.many_maps.specs.Given.ResizeDeclared.dispose.Disposing.TheVariants as disposes
use Rattle.many_maps.specs.Given.RuleChart.{Chart}
use Rattle.many_maps.specs.Given.RuleWords.{Blocks}
use Rattle.many_maps.specs.Given.RuleInWorld.{IsMapIn}
use Rattle.many_maps.specs.Given.PointsFactsCalls.{Change, Seeks, CallFacts}
use Rattle.many_maps.specs.Given.PointsTold.{IsRowOf, IsRowOfCall}
use Rattle.owner_facts.specs.Alone.Counting.{shards_sum}
use Rattle.owner_facts.specs.Alone.Counted.{HasAdded, counted_for, counted_end, counted_at}
use Rattle.owner_facts.proofs.Alone.Shards.Counts.{RefusedAt, Says, none_at, later_says, counts_says, disposes_says, drops_says, over_says}
use Rattle.owner_facts.proofs.Alone.Shards.Sums.{shard_added, added_same, added_more}
use Rattle.owner_facts.proofs.Alone.Spared.Shards.{shards_spared}
use Rattle.many_maps.proofs.Given.RuleSpared.{PlanSpares, spares_as}
use Rattle.owner_facts.proofs.Alone.Spared.Steps.{shards_same}
use Rattle.many_maps.proofs.Given.CallersAsked.Stays.{HasYet as CountsLater}

module _ {K V Q : Type 0} (same : K → K → Bool) (hash : K → ℕ) (asks : Q → K → Bool) (w : World (Node K V)) (caller : ℕ) (setting : Setting) (c : Chart K) (blocks : Blocks) (keys : K → Bool)
    (map : IsMapIn same hash setting w c blocks) (change : Change) (p : KeyCall K V Q) (f : CallFacts same hash asks w caller setting c blocks keys change p) (none : IsRowOfCall p.stands → ⊥)
    (may : May Can Took value_at w.memory (call_plan asks same hash p)) (m0 m2 : Mem (Node K V)) (end : KeyCall K V Q × Called (Node K V))
    (steps : Steps Took value_at w.memory (call_plan asks same hash p) m2 end) where
  abbrev Had : ℕ → Type 0
  Had n = HasAdded setting m0 n w.memory

  -- and nothing where it is refused
  abbrev Has : Type 0
  Has = HasAdded setting m0 (counted_at end.0.stands) m2 × ((fault : Fault) → end.1 ≡ called.Refused fault → HasAdded setting m0 0 m2)

  has : (n : ℕ) → Says n end → HasAdded setting m0 n m2 → Has
  has n says had = (
    subst (λ (x : ℕ). HasAdded setting m0 x m2) (sym says.0) had,
    λ fault is. subst (λ (x : ℕ). HasAdded setting m0 x m2) (refused_at fault is) had,
  )
    where
      refused_at : (fault : Fault) → end.1 ≡ called.Refused fault → n ≡ 0
      refused_at fault is = subst (RefusedAt {T = Node K V} n) is says.1

  abbrev Stepped : Calling → Type 0
  Stepped stands = Steps Took value_at w.memory (plan_at asks same hash p stands) m2 end

  -- the shards say what they said, and the call has counted what it had
  as_before : (n : ℕ) → Says n end → Had n → shards_sum m2 setting.counter (suc setting.mask) ≡ shards_sum w.memory setting.counter (suc setting.mask) → Has
  as_before n says had e = has n says (added_same w.memory m2 setting m0 n had e)

  -- before it knows its answer
  early : (stands : Calling) → p.stands ≡ stands → CountsLater stands → Seeks same hash asks w caller setting c blocks keys change stands → Stepped stands → Had (counted_at stands) → Has
  early stands is so seeks st had =
      as_before 0 (later_says asks same hash p w.memory m2 end stands is so st) (subst Had (none_at stands so) had)
      (shards_same same hash asks w caller setting c blocks keys map change p f none (subst (Seeks same hash asks w caller setting c blocks keys change) (sym is) seeks) may m2 end steps)

  -- the shard of its slot
  abbrev shard : ℕ
  shard = bit_and setting.slot setting.mask

  shard_is : Word p.setting.counter (bit_and p.setting.slot p.setting.mask) ≡ Word setting.counter shard
  shard_is = ap (λ (x : Setting). Word x.counter (bit_and x.slot x.mask)) f.setting_is

  -- it counts its change
  counting : (removed : ℕ) → Stepped (at.Counts removed) → Had 0 → Has
  counting removed st had =
      let d = added w.memory (λ out. Now (counted p removed)) (Word p.setting.counter (bit_and p.setting.slot p.setting.mask)) (count_change removed) m2 end st in
      has (count_change removed) (counts_says asks same hash p w.memory m2 end removed st)
      (added_more w.memory m2 setting m0 (count_change removed) had
      (shard_added w.memory m2 setting (count_change removed) d.0 (subst (λ (x : At). word_at w.memory x ≡ Some d.0) shard_is d.1)
      (subst (λ (x : At). m2 ≡ with_word w.memory x ((d.0 + count_change removed) % 2 ^ 64)) shard_is d.2)))

  -- its disposal goes on
  disposing : (d : Dispose) (answer : KeyAnswer) → p.stands ≡ at.Disposes d answer → (IsRowOf d.stands → ⊥) → Stepped (at.Disposes d answer) → Had (counted_for answer) → Has
  disposing d answer is row st had =
      as_before (counted_for answer) (disposes_says asks same hash p w.memory m2 end d answer st) had
      (shards_spared same hash w setting c blocks map (plan_at asks same hash p (at.Disposes d answer)) (λ i. spares_as (Word setting.counter i) (disposed p answer) (dispose.dispose_plan d) (by i d.stands row))
      (subst (λ (x : Calling). May Can Took value_at w.memory (plan_at asks same hash p x)) is may) m2 end st)
    where
      by : (i : ℕ) (stands : Disposing) → (IsRowOf stands → ⊥) → PlanSpares {T = Node K V} (Word setting.counter i) (dispose.plan_at d stands)
      by i (disposes.Settles settle) row = absurd (row tt)
      by i (disposes.Defers defer) row = absurd (row tt)
      by i disposes.Reads row = tt
      by i (disposes.Walks table) row = tt
      by i disposes.Over row = tt

  pub counted_on : Had (counted_at p.stands) → Has
  counted_on had = by p.stands refl steps none had
    where
      by : (stands : Calling) → p.stands ≡ stands → Stepped stands → (IsRowOfCall stands → ⊥) → Had (counted_at stands) → Has
      by at.Makes is st row had = early at.Makes is tt tt st had
      by (at.Looks l) is st row had = early (at.Looks l) is tt tt st had
      by at.Roots is st row had = early at.Roots is tt tt st had
      by at.Probes is st row had = early at.Probes is tt tt st had
      by (at.Tries word new) is st row had = early (at.Tries word new) is tt tt st had
      by at.Nexts is st row had = early at.Nexts is tt tt st had
      by (at.Firsts making) is st row had = early (at.Firsts making) is tt tt st had
      by (at.Allocs making) is st row had = early (at.Allocs making) is tt tt st had
      by (at.Helps copier goal) is st row had = early (at.Helps copier goal) is tt tt st had
      by (at.Copies copier) is st row had = early (at.Copies copier) is tt tt st had
      by (at.Counts removed) is st row had = counting removed st had
      by (at.Asks asks_at) is st row had = early (at.Asks asks_at) is tt tt st had
      by (at.Disposes d answer) is st row had = disposing d answer is row st had
      by (at.Drops over) is st row had =
          as_before (counted_end over) (drops_says asks same hash p w.memory m2 end over is st) had
          (shards_same same hash asks w caller setting c blocks keys map change p f none (subst (Seeks same hash asks w caller setting c blocks keys change) (sym is) tt) may m2 end steps)
      by (at.Over over) is st row had =
          as_before (counted_end over) (over_says asks same hash p w.memory m2 end over is st) had
          (ap (λ (n : Mem (Node K V)). shards_sum n setting.counter (suc setting.mask)) st.0)

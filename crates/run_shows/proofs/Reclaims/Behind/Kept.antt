-- Rows on slots leave what is behind roots as it is, and each map as it stands.
use Rattle.std.specs.Prelude.{Option, Some, None, slice_get}
use Rattle.std.proofs.Common.{◌≡◌, ℕ, zero, suc, ◌<◌, ◌≤◌, Bool, List, [], ◌∷◌, ◌⊎◌, inl, inr, refl, arith, ap, sym, subst, ◌∙◌}
use Rattle.std.proofs.lemmas.Bool.{cases_eq}
use Rattle.seize_words.specs.declared.at.At.TheVariants.{Root, Used, Entry}
use Rattle.seize_words.specs.OneMemory.Mem.{Mem, value_at, word_at}
use Rattle.seize.specs.declared.states.TheConstants.{NEXT}
use Rattle.seize.specs.World.{World, LeftTo, Request, Register', Leave', Flush, Unregister', Enter', LeaveOwned, Refresh, Retire, Defer', Event, Begin, Step, Happens, Runs, times}
use Rattle.seize_acts.proofs.Given.SeizeEndsBatches.Rows.{begins_memory}
use Rattle.seize_acts.proofs.Given.SeizeAloneHistories.NotTaken.{did}
use Rattle.seize_acts.specs.Reclaims.Roots.{all_lists}
use Rattle.run_effects.specs.Given.TablesNodes.{deferred_word}
use Rattle.run_effects.specs.Given.TablesDeclared.node.Node.{Node}
use Rattle.many_maps.proofs.Given.CallersSights.Parts.{part_then}
use Rattle.many_maps.specs.Given.CallersTogether.{UnderWay, CameAbout, IsOfSlots}
use Rattle.many_maps.proofs.Given.CallersTogether.Came.{came_reached}
use Rattle.many_maps.specs.Endings.{Finishing}
use Rattle.many_maps.specs.Makings.{Beginning}
use Rattle.many_maps.specs.Maps.{Standing, IsSameMap}
use Rattle.many_maps.proofs.Among.Rows.{guards_stand_among}
use Rattle.many_maps.proofs.Beside.Endings.Rows.{step_spares_end, slots_spare_end}
use Rattle.many_maps.proofs.Beside.Endings.Spares.{SparesEnd}
use Rattle.many_maps.proofs.Beside.Makings.RowSteps.{same_setting}
use Rattle.many_maps.proofs.Ends.CountedBlocks.{times-append, some_here}
use Rattle.many_maps.proofs.Ends.Memory.{list_led}
use Rattle.run_shows.specs.Reclaims.Reclaims.{IsRootOf, RootLeads, LeftBut, AllStandIdle}
use Rattle.run_shows.specs.Reclaims.Slots.{IsForSlots, AreItsRows}
use Rattle.many_maps.proofs.Among.Machines.{same_map as same_still}

-- maps as they were, but for what may be looked at

pub same_then : {K : Type 0} (o a b : Option (Standing K)) → IsSameMap o a → IsSameMap a b → IsSameMap o b
same_then {K} None a b first then = subst (λ (x : Option (Standing K)). IsSameMap x b) first then
same_then {K} (Some s) a b (blocks, sights, is, part) then =
    let k = subst (λ (x : Option (Standing K)). IsSameMap x b) is then in (k.0, k.1, k.2, part_then s.chart k.0 blocks s.blocks part k.3)

-- the setting of a map that was there
still_setting : {K : Type 0} (o after : Option (Standing K)) → IsSameMap o after → (s : Standing K) → o ≡ Some s → (s2 : Standing K) × (after ≡ Some s2) × (s2.setting ≡ s.setting)
still_setting {K} o after is s e =
    let k = subst (λ (x : Option (Standing K)). IsSameMap x after) e is in (record s { blocks = k.0; sights = k.1 }, k.2, refl)

module _ {K : Type 0} (maps maps2 : ℕ → Option (Standing K)) (same : (m : ℕ) → IsSameMap (maps m) (maps2 m)) where
  pub root_before : (r : ℕ) → IsRootOf maps2 r → IsRootOf maps r
  root_before r (m, s2, here, is) = let k = same_setting (maps m) (maps2 m) (same m) s2 here in (m, k.0, k.1, ap (λ x. x.root) (sym k.2) ∙ is)

  pub root_still : (r : ℕ) → IsRootOf maps r → IsRootOf maps2 r
  root_still r (m, s, here, is) = let k = still_setting (maps m) (maps2 m) (same m) s here in (m, k.0, k.1, ap (λ x. x.root) k.2 ∙ is)

-- what stands behind a root stands behind all
pub in_all : (lists : ℕ → List ℕ) (r n x : ℕ) → r < n → times x (lists r) ≤ times x (all_lists lists n)
in_all lists r zero x lt = absurd (omega (arith, lt))
in_all lists r (suc n) x lt = elim (cases_eq r n) as (λ _. times x (lists r) ≤ times x (all_lists lists (suc n))) [
  | inl is ↦ (let k = times-append x (all_lists lists n) (lists n) in let e = ap (λ (y : ℕ). times x (lists y)) is in omega (arith, k, e))
  | inr ne ↦ (let k = times-append x (all_lists lists n) (lists n) in let ih = in_all lists r n x (omega (arith, lt, ne)) in omega (arith, k, ih))
]

-- what is left over is as it was, and so are the roots but these
pub record KeepsLeft {K V : Type 0} (Its : ℕ → Type 0) (w w2 : World (Node K V)) : Type 0 where
  pub hands : (b j : ℕ) → w.hand b ≡ LeftTo j → w2.hand b ≡ LeftTo j
  pub values : (b j : ℕ) → w.hand b ≡ LeftTo j → value_at w2.memory b ≡ value_at w.memory b
  pub links : (b j word : ℕ) → w.hand b ≡ LeftTo j → word_at w.memory (Entry b NEXT) ≡ Some word → word_at w2.memory (Entry b NEXT) ≡ Some word
  pub roots : (r word : ℕ) → (Its r → ⊥) → word_at w.memory (Root r) ≡ Some word → word_at w2.memory (Root r) ≡ Some word
  pub used : (r word : ℕ) → (Its r → ⊥) → word_at w.memory (Used r) ≡ Some word → word_at w2.memory (Used r) ≡ Some word

module _ {K V : Type 0} (Its : ℕ → Type 0) where
  pub keeps_still : (w : World (Node K V)) → KeepsLeft Its w w
  keeps_still w = record { hands = λ b j is. is; values = λ b j is. refl; links = λ b j word is there. there; roots = λ r word other is. is; used = λ r word other is. is }

  pub keeps_then : (w v w2 : World (Node K V)) → KeepsLeft Its w v → KeepsLeft Its v w2 → KeepsLeft Its w w2
  keeps_then w v w2 first then = record {
    hands = λ b j is. then.hands b j (first.hands b j is);
    values = λ b j is. then.values b j (first.hands b j is) ∙ first.values b j is;
    links = λ b j word is there. then.links b j word (first.hands b j is) (first.links b j word is there);
    roots = λ r word other is. then.roots r word other (first.roots r word other is);
    used = λ r word other is. then.used r word other (first.used r word other is);
  }

  pub by_spares : (size owner root : ℕ) (w w2 : World (Node K V)) → ((j : ℕ) → SparesEnd w w2 size owner root j)
      → ((r word : ℕ) → (Its r → ⊥) → word_at w.memory (Root r) ≡ Some word → word_at w2.memory (Root r) ≡ Some word)
      → ((r word : ℕ) → (Its r → ⊥) → word_at w.memory (Used r) ≡ Some word → word_at w2.memory (Used r) ≡ Some word) → KeepsLeft Its w w2
  by_spares size owner root w w2 spares roots used = record {
    hands = λ b j is. ((spares j).blocks b (inr is)).hand ∙ is;
    values = λ b j is. ((spares j).blocks b (inr is)).value;
    links = λ b j word is there. (spares j).links b word is there;
    roots = roots;
    used = used;
  }

  pub step_keeps : (size i : ℕ) (w w2 : World (Node K V)) → CameAbout size w → Happens deferred_word size (Step i) w w2 → KeepsLeft Its w w2
  step_keeps size i w w2 came h =
      by_spares size 0 0 w w2 (λ j. step_spares_end size w came i w2 h 0 0 j)
      (λ r word other is. ap (λ l. slice_get l r) (did deferred_word size w (came_reached size w came) i w2 h).frames.roots ∙ is)
      (λ r word other is. ap (λ l. slice_get l r) (did deferred_word size w (came_reached size w came) i w2 h).frames.used ∙ is)

  pub begin_keeps : (size i : ℕ) (request : Request) (w w2 : World (Node K V)) → CameAbout size w → IsOfSlots request → Happens deferred_word size (Begin i request) w w2 → KeepsLeft Its w w2
  begin_keeps size i request w w2 came of h =
      let same : w2.memory ≡ w.memory = begins_memory deferred_word size i request w w2 h.1 in
      by_spares size 0 0 w w2 (λ j. slots_spare_end size w came 0 0 j i w2 request of h) (λ r word other is. ap (λ (m : Mem (Node K V)). word_at m (Root r)) same ∙ is)
      (λ r word other is. ap (λ (m : Mem (Node K V)). word_at m (Used r)) same ∙ is)

module _ {K V : Type 0} where
  -- a root leads where it led
  pub leads_by : (w w2 : World (Node K V)) (r : ℕ) (l : List ℕ) → ((word : ℕ) → word_at w.memory (Root r) ≡ Some word → word_at w2.memory (Root r) ≡ Some word)
      → ((word : ℕ) → word_at w.memory (Used r) ≡ Some word → word_at w2.memory (Used r) ≡ Some word)
      → ((x : ℕ) → 0 < times x l → (value_at w2.memory x ≡ value_at w.memory x) × ((next : ℕ) → word_at w.memory (Entry x NEXT) ≡ Some next → word_at w2.memory (Entry x NEXT) ≡ Some next))
      → RootLeads w r l → RootLeads w2 r l
  leads_by w w2 r [] root used on (a, b) = (used 0 a, root 0 b)
  leads_by w w2 r (b ∷ l) root used on ((value, is, was), (word, leads, there), taken) = (
    (value, (on b (some_here b l)).0 ∙ is, was),
    (word, root word leads, list_led w.memory w2.memory word (b ∷ l) (λ x some. (on x some).1) there),
    used 1 taken,
  )

  module _ (roots : ℕ) (w w2 : World (Node K V)) (keeps : KeepsLeft (λ r. ⊥) w w2) (maps maps2 : ℕ → Option (Standing K)) (same : (m : ℕ) → IsSameMap (maps m) (maps2 m)) (lists : ℕ → List ℕ) where
    leads_on : (r : ℕ) (l : List ℕ) → ((x : ℕ) → 0 < times x l → (j : ℕ) × (w.hand x ≡ LeftTo j)) → RootLeads w r l → RootLeads w2 r l
    leads_on r l left leads =
        leads_by w w2 r l (λ a is. keeps.roots r a (λ none. none) is) (λ a is. keeps.used r a (λ none. none) is) (λ x on. let k = left x on in (keeps.values x k.0 k.1, λ next is. keeps.links x k.0 next k.1 is)) leads

    -- what is behind roots stays
    pub left_on : (root : ℕ) → LeftBut roots w maps lists root → LeftBut roots w2 maps2 lists root
    left_on root left = record {
      others = λ r lt ne. (elim (left.others r lt ne) as (λ _. IsRootOf maps2 r ⊎ RootLeads w2 r (lists r)) [
        | inl is ↦ inl (root_still maps maps2 same r is)
        | inr leads ↦ inr (leads_on r (lists r) (λ x on. left.left x (let k = in_all lists r roots x lt in omega (arith, k, on))) leads)
      ]);
      none = λ r below is. left.none r below (root_before maps maps2 same r is);
      left = λ b on. let k = left.left b on in (k.0, keeps.hands b k.0 k.1);
      once = left.once;
    }

pub of_slots : (request : Request) → IsForSlots request → IsOfSlots request
of_slots (Register' enters) is = tt
of_slots (Leave' s) is = tt
of_slots (Flush s) is = tt
of_slots (Unregister' s) is = tt
of_slots (Enter' s) is = absurd is
of_slots (LeaveOwned s) is = absurd is
of_slots (Refresh s) is = absurd is
of_slots (Retire s b) is = absurd is
of_slots (Defer' s b t) is = absurd is

module _ {K Q : Type 0} (V : Type 0) (same : K → K → Bool) (asks : Q → K → Bool) (batch_size roots : ℕ) (slot : ℕ → ℕ)
    (calls : ℕ → ℕ → Option (UnderWay K V Q)) (makers : ℕ → Option (Beginning K)) (enders : ℕ → Option (Finishing K V)) (i : ℕ) where
  abbrev Idle : (ℕ → Option (Standing K)) → World (Node K V) → Type 0
  Idle maps w = AllStandIdle V same asks batch_size roots slot maps calls makers enders w

  -- all stand on
  abbrev pub StandOn : (ℕ → Option (Standing K)) → World (Node K V) → World (Node K V) → Type 0
  StandOn maps w w2 = (maps2 : ℕ → Option (Standing K)) × ((m : ℕ) → IsSameMap (maps m) (maps2 m)) × Idle maps2 w2 × KeepsLeft (λ r. ⊥) w w2

  idle_came : (maps : ℕ → Option (Standing K)) (w : World (Node K V)) → Idle maps w → CameAbout batch_size w
  idle_came maps w idle = idle.together.makings.standing.came

  stand_then : (maps : ℕ → Option (Standing K)) (w v w2 : World (Node K V)) → (first : StandOn maps w v) → StandOn first.0 v w2 → StandOn maps w w2
  stand_then maps w v w2 (maps1, same1, idle1, keeps1) (maps2, same2, idle2, keeps2) =
      (maps2, (λ m. same_then (maps m) (maps1 m) (maps2 m) (same1 m) (same2 m)), idle2, keeps_then (λ r. ⊥) w v w2 keeps1 keeps2)

  step_stands : (maps : ℕ → Option (Standing K)) (w w2 : World (Node K V)) → Idle maps w → Happens deferred_word batch_size (Step i) w w2 → StandOn maps w w2
  step_stands maps w w2 idle h =
      let k = (guards_stand_among V same asks batch_size roots slot w maps calls makers enders idle.together i (λ m. idle.no_calls m i)).2 w2 h in
      (k.0, k.1, record { together = k.2; no_calls = idle.no_calls; no_makers = idle.no_makers; no_enders = idle.no_enders }, step_keeps (λ r. ⊥) batch_size i w w2 (idle_came maps w idle) h)

  begin_stands : (request : Request) → IsForSlots request → (maps : ℕ → Option (Standing K)) (w w2 : World (Node K V)) → Idle maps w → Happens deferred_word batch_size (Begin i request) w w2 → StandOn maps w w2
  begin_stands request is maps w w2 idle h =
      let k = (guards_stand_among V same asks batch_size roots slot w maps calls makers enders idle.together i (λ m. idle.no_calls m i)).0 request (of_slots request is)
      (λ m j u has. absurd (let none = idle.no_calls m j in cc (has, none))) w2 h in
      (k.0, k.1, record { together = k.2; no_calls = idle.no_calls; no_makers = idle.no_makers; no_enders = idle.no_enders }, begin_keeps (λ r. ⊥) batch_size i request w w2 (idle_came maps w idle) (of_slots request is) h)

  -- over such events
  pub rows_stand : (events : List (Event (Node K V))) → AreItsRows i events → (maps : ℕ → Option (Standing K)) (w w2 : World (Node K V)) → Idle maps w → Runs deferred_word batch_size events w w2
      → StandOn maps w w2
  rows_stand [] own maps w w2 idle runs =
      subst (λ (v : World (Node K V)). StandOn maps w v) (sym runs) (maps, (λ m. same_still (maps m)), idle, keeps_still (λ r. ⊥) w)
  rows_stand (Begin j request ∷ events) own maps w w2 idle runs =
      let h = subst (λ (k : ℕ). Happens deferred_word batch_size (Begin k request) w runs.0) own.0 runs.1 in
      let first = begin_stands request own.1 maps w runs.0 idle h in
      stand_then maps w runs.0 w2 first (rows_stand events own.2 first.0 runs.0 w2 first.2 runs.2)
  rows_stand (Step j ∷ events) own maps w w2 idle runs =
      let h = subst (λ (k : ℕ). Happens deferred_word batch_size (Step k) w runs.0) own.0 runs.1 in
      let first = step_stands maps w runs.0 idle h in
      stand_then maps w runs.0 w2 first (rows_stand events own.1 first.0 runs.0 w2 first.2 runs.2)
  rows_stand (e ∷ events) own maps w w2 idle runs = absurd own

-- A retaining of one owner's map by a closure, from question to question: what it was asked and has answered, what is so once it is told, and what it leaves.
use Rattle.std.specs.Prelude.{◌≡◌, ℕ, ◌<◌, ◌-◌, Bool, List, [], ◌∷◌, ◌++◌, length, map, All, IsPermutation, Result, Ok, Err}
use Rattle.std.proofs.Common.{refl, sym, ◌∙◌, ap, subst, arith}
use Rattle.std.proofs.lemmas.Fn.{FoldsTo-push}
use Rattle.std.proofs.lemmas.List.{append-nil, length-map, map_push}
use Rattle.std.proofs.lemmas.List.Elements.{All-nil, All-push, All-weaker}
use Rattle.std.proofs.lemmas.List.Sorted.{IsPermutation-refl, IsPermutation-sym, IsPermutation-map, IsPermutation-pop_more}
use denote.Ref.{Bor}
use Rattle.std.specs.Fn.{Mut}
use Rattle.seize_words.specs.OneMemory.Mem.{Mem}
use Rattle.seize_words.specs.declared.fault.Fault.{Fault}
use Rattle.seize_words.specs.declared.fault.Fault.TheVariants.{Capacity}
use Rattle.map_tables.specs.declared.node.Node.{Node}
use Rattle.map_tables.specs.declared.setting.Setting.{Setting}
use Rattle.papaya_raw.specs.Given.SweepsSweepPoints.{sweeping, after_reply}
use Rattle.papaya_raw.specs.Given.ReservesDeclared.sweep.Purpose.TheVariants.{Retains}
use Rattle.papaya_raw.specs.Given.ReservesDeclared.sweep.Sweep.{Sweep}
use Rattle.owner_whole.specs.Given.LateCovers.{times}
use Rattle.owner_whole.specs.Given.LateFaults.{IsRoom, RoomInSweeping}
use Rattle.owner_whole.proofs.Given.LateKindsKept.Laws.{told_sweeps_refuse_room}
use Rattle.map_straight.specs.Shown.Chain.{CannotGrowIn}
use Rattle.owner_whole.specs.Whole.SweptPairs.{pairs_of, those, is_done}
use Rattle.owner_whole.proofs.Whole.Contents.KeptBy.{done_here, done_other, times_here}
use Rattle.owner_whole.proofs.Whole.Contents.Numbered.{all_those}
use Rattle.owner_whole.specs.Strides.Ending.{Ends, RunsTo}
use Rattle.owner_calls.specs.Owned.Owned.{Holds, NamesAPair}
use Rattle.owner_calls.specs.Sifts.Retaining.{AskedAbout, AskedAlong, KeepsOf}
use Rattle.owner_calls.specs.Sifts.Sweeping.{HasSwept, IsSweeping, over_pairs_plan, swept_by}
use Rattle.owner_calls.specs.Sifts.Sweeping as sweeps
use Rattle.owner_calls.specs.declared.sweeping.OverPairs.{OverPairs}
use Rattle.owner_calls.specs.declared.sweeping.Pause.{Pause}
use Rattle.owner_calls.specs.declared.sweeping.Pause.TheVariants as pause
use Rattle.owner_calls.proofs.Sifts.Over.Questions.{answered_by, same_answers, pairs_answered, pairs_kept}
use Rattle.owner_calls.proofs.Sifts.Over.Refusals.{runs_room}
use Rattle.owner_calls.proofs.Sifts.Over.Retains.{Question, UnderIt, AsksIt, numbered, question, retained, retains_not_walks, said_of, told, not_yet, unasked}
use Rattle.owner_calls.proofs.Sifts.Over.Sweeps.{Said, nothing, ComesTo, begins_under, under_ends, comes_to, refused_holds, refused_ends}

module _ {F K V S : Type 0} (g : Mut F (Bor K × (Bor V × Unit {0})) Bool) (f0 : F) (same : K → K → Bool) (hashes : S → K → ℕ) (b : Bor S) (setting : Setting) (m0 : Mem (Node K V)) (xs : List (K × V))
    (h : Holds same (hashes b.now) setting m0 xs) where
  -- the pairs that the map held, each behind its number
  abbrev ns : List (ℕ × (K × V))
  ns = (numbered same hashes b setting m0 xs h).0

  abbrev said_so : Said → ℕ → Bool → Said
  said_so = said_of same hashes b setting m0 xs h

  -- its number is one that was told of
  abbrev IsTold : Said → ℕ × (K × V) → Type 0
  IsTold said y = 0 < times y.0 said.asked

  -- The closure was asked about these pairs, one after the other, and is so now. With those that are not told of yet, they are all.
  pub record Heard (said : Said) (f : F) : Type 0 where
    pub pairs : List (ℕ × (K × V))
    pub along : AskedAlong g f0 (map (answered_by said.done) pairs) f
    pub all : IsPermutation ns (pairs ++ not_yet said.asked ns)
    pub known : All (IsTold said) pairs

  heard_begins : Heard nothing f0
  heard_begins = record {
    pairs = [];
    along = refl;
    all = subst (λ (l : List (ℕ × (K × V))). IsPermutation ns l) (sym (all_those ns)) (IsPermutation-refl ns);
    known = All-nil (IsTold nothing);
  }

  module _ (said : Said) (f : F) (heard : Heard said f) (m : Mem (Node K V)) (word : ℕ) (q : Question same hashes b setting m0 xs h said m word) (keeps : Bool) (f2 : F)
      (asked : AskedAbout g f (q.key, q.value) keeps f2) where
    abbrev its : ℕ × (K × V)
    its = (q.number, (q.key, q.value))

    abbrev then_said : Said
    then_said = said_so said q.number keeps

    apart : (y : ℕ × (K × V)) → IsTold said y → y.0 ≡ q.number → ⊥
    apart y l is = let new = q.new in let e = ap (λ (i : ℕ). times i said.asked) is in omega (arith, l, new, e)

    answers_then : map (answered_by then_said.done) (heard.pairs ++ (its ∷ [])) ≡ map (answered_by said.done) heard.pairs ++ (((q.key, q.value), keeps) ∷ [])
    answers_then =
        map_push (answered_by then_said.done) heard.pairs its
        ∙ ap (λ (l : List ((K × V) × Bool)). l ++ (answered_by then_said.done its ∷ []))
        (same_answers said.done then_said.done heard.pairs
        (All-weaker (IsTold said) (λ (y : ℕ × (K × V)). is_done then_said.done y.0 ≡ is_done said.done y.0) (λ y l. done_other q.number said.done q.fresh keeps y.0 (apart y l)) heard.pairs heard.known))
        ∙ ap {B = List ((K × V) × Bool)} (λ (x : Bool). map (answered_by said.done) heard.pairs ++ (((q.key, q.value), x) ∷ [])) (done_here q.number said.done q.fresh keeps)

    heard_then : Heard then_said f2
    heard_then = record {
      pairs = heard.pairs ++ (its ∷ []);
      along = subst (λ (l : List ((K × V) × Bool)). AskedAlong g f0 l f2) (sym answers_then)
          (FoldsTo-push (λ (p : F) (y : (K × V) × Bool) (r : F). AskedAbout g p y.0 y.1 r) f0 (map (answered_by said.done) heard.pairs) f ((q.key, q.value), keeps) f2 heard.along asked);
      all = IsPermutation-pop_more ns heard.pairs (not_yet said.asked ns) (not_yet (q.number ∷ said.asked) ns) its heard.all q.taken;
      known = All-push (IsTold then_said) heard.pairs its
          (All-weaker (IsTold said) (IsTold then_said) (λ y l. omega (arith, l)) heard.pairs heard.known)
          (let e = times_here q.number said.asked in omega (arith, e));
    }

  keeps_then : (said : Said) (f : F) → Heard said f → not_yet said.asked ns ≡ [] → KeepsOf g f0 xs (pairs_of (those (is_done said.done) ns))
  keeps_then said f heard none = record {
    answered = map (answered_by said.done) ns;
    all = pairs_answered said.done ns ∙ (numbered same hashes b setting m0 xs h).2;
    asked = map (answered_by said.done) heard.pairs;
    each_once = IsPermutation-map (answered_by said.done) heard.pairs ns
        (IsPermutation-sym ns heard.pairs (subst (λ (l : List (ℕ × (K × V))). IsPermutation ns l) (ap (λ (l : List (ℕ × (K × V))). heard.pairs ++ l) none ∙ append-nil heard.pairs) heard.all));
    last = f;
    along = heard.along;
    kept_are = pairs_kept said.done ns;
  }

  abbrev IsSince : OverPairs S → Mem (Node K V) → Type 0
  IsSince = IsSweeping hashes b setting Retains m0

  -- it is under way, and was not told about so many pairs yet
  pub record Sifting (x : OverPairs S) (m : Mem (Node K V)) (left : ℕ) (f : F) : Type 0 where
    pub said : Said
    pub under : UnderIt same hashes b setting m0 xs h said x m
    pub left_is : left ≡ unasked said.asked ns
    pub heard : Heard said f
    pub room : RoomInSweeping x.sweep.stands
    pub since : IsSince x m

  -- it asks about the pair of this word
  pub record Asking (x : OverPairs S) (m : Mem (Node K V)) (left word : ℕ) (f : F) : Type 0 where
    pub said : Said
    pub asks : AsksIt same hashes b setting m0 xs h said x m word
    pub left_is : left ≡ unasked said.asked ns
    pub heard : Heard said f
    pub room : RoomInSweeping x.sweep.stands
    pub since : (keeps : Bool) → IsSince (record x { sweep = after_reply x.sweep keeps }) m

  all_left : length xs ≡ unasked [] ns
  all_left =
      let n = numbered same hashes b setting m0 xs h in
      sym (ap length n.2) ∙ length-map n.0 (λ (x : ℕ × (K × V)). x.1) ∙ sym (ap length (all_those n.0))

  pub sifting_begins : (p : Sweep) → p ≡ sweeping setting Retains → (left : ℕ) → left ≡ length xs → Sifting (record { sweep = p; hasher = b }) m0 left f0
  sifting_begins p is left all = record {
    said = nothing;
    under = subst (λ (x : Sweep). UnderIt same hashes b setting m0 xs h nothing (record { sweep = x; hasher = b }) m0) (sym is)
        (begins_under same hashes b setting m0 xs h Retains retains_not_walks);
    left_is = all ∙ all_left;
    heard = heard_begins;
    room = subst (λ (y : Sweep). RoomInSweeping y.stands) (sym is) tt;
    since = subst (λ (y : Sweep). IsSince (record { sweep = y; hasher = b }) m0) (sym is) sweeps.begun;
  }

  module _ (x : OverPairs S) (m : Mem (Node K V)) (left : ℕ) (f : F) (s : Sifting x m left f) where
    pub sifting_ends : Ends (over_pairs_plan {V = V} hashes) x m
    sifting_ends = under_ends same hashes b setting m0 xs h Retains retains_not_walks s.said x m s.under

    came : (x2 : OverPairs S) (m2 : Mem (Node K V)) (result : Result Pause Fault) → RunsTo (over_pairs_plan {V = V} hashes) x m x2 m2 result
        → ComesTo same hashes b setting m0 xs h Retains retains_not_walks s.said x2 m2 result
    came x2 m2 result runs = comes_to same hashes b setting m0 xs h Retains retains_not_walks s.said x m x2 m2 result runs s.under

    ran : (x2 : OverPairs S) (m2 : Mem (Node K V)) (end known : Pause) → end ≡ known → RunsTo (over_pairs_plan {V = V} hashes) x m x2 m2 (Ok end) → ComesTo same hashes b setting m0 xs h Retains retains_not_walks s.said x2 m2 (Ok known)
    ran x2 m2 end known is runs = came x2 m2 (Ok known) (subst (λ (e : Pause). RunsTo (over_pairs_plan {V = V} hashes) x m x2 m2 (Ok e)) is runs)

    pub sifting_asks : (x2 : OverPairs S) (m2 : Mem (Node K V)) (word : ℕ) (end : Pause) → end ≡ pause.Asks word → RunsTo (over_pairs_plan {V = V} hashes) x m x2 m2 (Ok end) → Asking x2 m2 left word f
    sifting_asks x2 m2 word end is runs = record {
      said = s.said;
      asks = ran x2 m2 end (pause.Asks word) is runs;
      left_is = s.left_is;
      heard = s.heard;
      room = (runs_room hashes x m x2 m2 (Ok end) runs s.room).0;
      since = sweeps.asked x m s.since x2 m2 word (subst (λ (e : Pause). RunsTo (over_pairs_plan {V = V} hashes) x m x2 m2 (Ok e)) is runs);
    }

    pub sifting_done : (x2 : OverPairs S) (m2 : Mem (Node K V)) (end : Pause) → end ≡ pause.Ended → RunsTo (over_pairs_plan {V = V} hashes) x m x2 m2 (Ok end)
        → (kept : List (K × V)) × KeepsOf g f0 xs kept × Holds same (hashes b.now) setting m2 kept
    sifting_done x2 m2 end is runs =
        let d = ran x2 m2 end pause.Ended is runs in
        let r = retained same hashes b setting m0 xs h s.said d.0 m2 d.1 in
        (pairs_of (those (is_done s.said.done) ns), keeps_then s.said f s.heard r.0, r.1)

    pub never_ready : (x2 : OverPairs S) (m2 : Mem (Node K V)) (end : Pause) → end ≡ pause.Ready → RunsTo (over_pairs_plan {V = V} hashes) x m x2 m2 (Ok end) → ⊥
    never_ready x2 m2 end is runs = ran x2 m2 end pause.Ready is runs

    pub never_shows : (x2 : OverPairs S) (m2 : Mem (Node K V)) (word : ℕ) (end : Pause) → end ≡ pause.Shows word → RunsTo (over_pairs_plan {V = V} hashes) x m x2 m2 (Ok end) → ⊥
    never_shows x2 m2 word end is runs = ran x2 m2 end (pause.Shows word) is runs

    pub sifting_refused : (x2 : OverPairs S) (m2 : Mem (Node K V)) (fault : Fault) → RunsTo (over_pairs_plan {V = V} hashes) x m x2 m2 (Err fault) → Holds same (hashes b.now) setting m2 xs
    sifting_refused x2 m2 fault runs = let r = came x2 m2 (Err fault) runs in refused_holds same hashes b setting m0 xs h Retains retains_not_walks s.said r.0 m2 fault r.1

    -- for the length of a table only where none can follow the last one
    pub sifting_ends_at : (x2 : OverPairs S) (m2 : Mem (Node K V)) (fault : Fault) → RunsTo (over_pairs_plan {V = V} hashes) x m x2 m2 (Err fault) → fault ≡ Capacity → CannotGrowIn m2 setting
    sifting_ends_at x2 m2 fault runs = let r = came x2 m2 (Err fault) runs in refused_ends same hashes b setting m0 xs h Retains retains_not_walks s.said r.0 m2 fault r.1

    pub sifting_faults : (x2 : OverPairs S) (m2 : Mem (Node K V)) (fault : Fault) → RunsTo (over_pairs_plan {V = V} hashes) x m x2 m2 (Err fault) → IsRoom fault
    sifting_faults x2 m2 fault runs = (runs_room hashes x m x2 m2 (Err fault) runs s.room).1

    pub sifting_ran : (x2 : OverPairs S) (m2 : Mem (Node K V)) (result : Result Pause Fault) → RunsTo (over_pairs_plan {V = V} hashes) x m x2 m2 result → HasSwept hashes b setting Retains m0 m2 (swept_by result)
    sifting_ran x2 m2 result runs = (x, m, s.since, x2, result, runs, refl)

  module _ (x : OverPairs S) (m : Mem (Node K V)) (left word : ℕ) (f : F) (a : Asking x m left word f) where
    abbrev pub asked_about : Question same hashes b setting m0 xs h a.said m word
    asked_about = question same hashes b setting m0 xs h a.said x m word a.asks

    pub asking_names : NamesAPair m word
    asking_names = let q = asked_about in (q.key, q.value, q.block)

    -- Told, it is under way again, and has one less to ask about.
    pub asking_left : 0 < left
    asking_left = let l = a.left_is in let less = asked_about.fewer in omega (arith, l, less)

    pub asking_told : (keeps : Bool) (f2 : F) → AskedAbout g f (asked_about.key, asked_about.value) keeps f2 → (p : Sweep) → p ≡ after_reply x.sweep keeps → (less : ℕ) → less ≡ left - 1
        → Sifting (record x { sweep = p }) m less f2
    asking_told keeps f2 asked p is less less_is = record {
      said = said_so a.said asked_about.number keeps;
      under = subst (λ (y : Sweep). UnderIt same hashes b setting m0 xs h (said_so a.said asked_about.number keeps) (record x { sweep = y }) m) (sym is)
          (told same hashes b setting m0 xs h a.said x m word a.asks keeps);
      left_is = let l = a.left_is in let fewer = asked_about.fewer in omega (arith, l, fewer, less_is);
      heard = heard_then a.said f a.heard m word asked_about keeps f2 asked;
      room = subst (λ (y : Sweep). RoomInSweeping y.stands) (sym is) ((told_sweeps_refuse_room x.sweep a.room).1 keeps);
      since = subst (λ (y : Sweep). IsSince (record x { sweep = y }) m) (sym is) (a.since keeps);
    }

-- Writes to the heads of slots: they are taken, entered, left and freed.
use Rattle.std.proofs.Common.{◌≡◌, ℕ, ◌<◌, true, cond, eqb, List, [], ◌∷◌, refl, arith}
use Rattle.seize_moves.specs.Waiting.Held.{count}
use Rattle.seize_moves.proofs.Moves.State.Ghost.{put, Entry, Head, Never, Free, Idle, Active, State, Life, list_of}
use Rattle.seize_moves.proofs.Moves.State.Moves.{registered, freed, entered, reopened, has_left, refreshed, begins_call, ends_call}
use Rattle.seize_moves.proofs.Moves.State.Sums.{put_both}
use Rattle.seize_moves.proofs.Memory.Words.Chains.{Chain, blocks_of}
use Rattle.seize_moves.proofs.Memory.Words.View.{View}
use Rattle.seize_moves.proofs.Memory.Words.Shows.{Spot, Nowhere, Unspent, On, InHands, SpotLife, Extra, Entries, Shows, Written, HeadIs, is_on, is_in_hands, is_unspent, stands, has_entry, keeps_like}

-- what a head's word says

pub head_active : (n t : ℕ) (f : View) (m : State) (x : Extra) → Shows n f m x → 2 < f.heads t → (es : List Entry) × (m.head t ≡ Active es)
head_active n t f m x v more = one (m.head t) refl (v.entries.headed t)
  where
    one : (h : Head) → m.head t ≡ h → HeadIs f.links (f.heads t) h → (es : List Entry) × (m.head t ≡ Active es)
    one Never k s = absurd (omega arith)
    one Free k s = absurd (omega arith)
    one Idle k s = absurd (omega arith)
    one (Active es) k s = (es, k)

-- an active head's word is 3 or more
pub active_head : (n t : ℕ) (es : List Entry) (f : View) (m : State) (x : Extra) → Shows n f m x → m.head t ≡ Active es → 2 < f.heads t
active_head n t [] f m x v is = let s = rw is at (v.entries.headed t) in omega arith
active_head n t (e ∷ es) f m x v is = let s = rw is at (v.entries.headed t) in let p = s.0 in let q = s.1 in omega arith

-- a head without a list becomes another one without a list
headed_anew : (n i s w : ℕ) (h : Head) (f : View) (m : State) (x : Extra) → Shows n f m x → list_of (m.head s) ≡ [] → list_of h ≡ [] → HeadIs f.links w h
    → Entries f.links (put f.heads s w) (put m.head s h) m.loose m.todo m.stage m.blocks m.life x.spot x.rest x.aimed x.hand
headed_anew n i s w h f m x v was none is = record {
  headed = put_both (λ u k g. HeadIs f.links k g) f.heads m.head s w h is v.entries.headed;
  loosed = v.entries.loosed;
  marks = v.entries.marks;
  rests = v.entries.rests;
  on = λ t y a. on t y a (v.entries.on t y a);
  hands = v.entries.hands;
  unspent = v.entries.unspent;
  spots = v.entries.spots;
}
  where
    on : (t y a : ℕ) → stands a y (list_of (m.head t)) ≡ is_on t y (x.spot a) → stands a y (list_of (put m.head s h t)) ≡ is_on t y (x.spot a)
    on t y a k = grind arith

pub registered_written : (n i s : ℕ) (f : View) (m : State) (x : Extra) → Shows n f m x → list_of (m.head s) ≡ []
    → Written n i f m x (record f { heads = put f.heads s 2 }) (registered m s) x
registered_written n i s f m x v was =
    record { shows = record { entries = headed_anew n i s 2 Idle f m x v was refl refl; linkage = v.linkage; lists = v.lists }; keeps = keeps_like i f m x _ refl refl refl refl refl }

pub freed_written : (n i s : ℕ) (f : View) (m : State) (x : Extra) → Shows n f m x → list_of (m.head s) ≡ []
    → Written n i f m x (record f { heads = put f.heads s 1 }) (freed m s) x
freed_written n i s f m x v was =
    record { shows = record { entries = headed_anew n i s 1 Free f m x v was refl refl; linkage = v.linkage; lists = v.lists }; keeps = keeps_like i f m x _ refl refl refl refl refl }

pub entered_written : (n i s : ℕ) (f : View) (m : State) (x : Extra) → Shows n f m x → list_of (m.head s) ≡ []
    → Written n i f m x (record f { heads = put f.heads s 3 }) (entered m s) x
entered_written n i s f m x v was =
    record { shows = record { entries = headed_anew n i s 3 (Active []) f m x v was refl refl; linkage = v.linkage; lists = v.lists }; keeps = keeps_like i f m x _ refl refl refl refl refl }

-- nothing is written where a section begins anew, or where a row comes into one
pub reopened_written : (n i s : ℕ) (f : View) (m : State) (x : Extra) → Shows n f m x → Written n i f m x f (reopened m s) x
reopened_written n i s f m x v = record { shows = record { entries = v.entries; linkage = v.linkage; lists = v.lists }; keeps = keeps_like i f m x f refl refl refl refl refl }

pub begins_call_written : (n i j s : ℕ) (f : View) (m : State) (x : Extra) → Shows n f m x → Written n i f m x f (begins_call m j s) x
begins_call_written n i j s f m x v = record { shows = record { entries = v.entries; linkage = v.linkage; lists = v.lists }; keeps = keeps_like i f m x f refl refl refl refl refl }

pub ends_call_written : (n i j : ℕ) (f : View) (m : State) (x : Extra) → Shows n f m x → Written n i f m x f (ends_call m j) x
ends_call_written n i j f m x v = record { shows = record { entries = v.entries; linkage = v.linkage; lists = v.lists }; keeps = keeps_like i f m x f refl refl refl refl refl }

-- row i takes the list of slot s
abbrev pub handed : ℕ → ℕ → Spot → Spot
handed i s Nowhere = Nowhere
handed i s (Unspent y) = Unspent y
handed i s (On t y) = cond (eqb t s) (InHands i y) (On t y)
handed i s (InHands j y) = InHands j y

abbrev pub left_off : View → Extra → ℕ → ℕ → Extra
left_off f x i s = record x { spot = λ c. handed i s (x.spot c); hand = put x.hand i (f.heads s) }

module _ (n i s w : ℕ) (h : Head) (es : List Entry) (f : View) (m : State) (x : Extra) where
  on_less : (t y a : ℕ) → list_of h ≡ [] → stands a y (list_of (m.head t)) ≡ is_on t y (x.spot a) → stands a y (list_of (put m.head s h t)) ≡ is_on t y (handed i s (x.spot a))
  on_less t y a none k = grind arith

  hands_more : (j y a : ℕ) → m.head s ≡ Active es → m.loose i ≡ [] → stands a y (list_of (m.head s)) ≡ is_on s y (x.spot a)
      → stands a y (m.loose j) ≡ is_in_hands j y (x.spot a) → stands a y (put m.loose i es j) ≡ is_in_hands j y (handed i s (x.spot a))
  hands_more j y a act none on k = grind arith

  unspent_same : (y a : ℕ) → count a (x.rest y) ≡ is_unspent y (x.spot a) → count a (x.rest y) ≡ is_unspent y (handed i s (x.spot a))
  unspent_same y a k = grind arith

  spots_same : (p : Spot) (l : Life) → SpotLife p l → SpotLife (handed i s p) l
  spots_same p l k = grind arith

  kept_spot : (j : ℕ) (p : Spot) → has_entry j m.holder m.stage p ≡ true → handed i s p ≡ p
  kept_spot j p k = grind arith

  -- its head is another one without a list
  left_entries : Shows n f m x → m.head s ≡ Active es → m.loose i ≡ [] → list_of h ≡ [] → HeadIs f.links w h
      → Entries f.links (put f.heads s w) (put m.head s h) (put m.loose i es) m.todo m.stage m.blocks m.life (λ c. handed i s (x.spot c)) x.rest x.aimed (put x.hand i (f.heads s))
  left_entries v act none empty is = record {
    headed = put_both (λ u k g. HeadIs f.links k g) f.heads m.head s w h is v.entries.headed;
    loosed = put_both (λ j k r. Chain 3 f.links k (blocks_of r)) x.hand m.loose i (f.heads s) es (rw act at (v.entries.headed s)) v.entries.loosed;
    marks = v.entries.marks;
    rests = v.entries.rests;
    on = λ t y a. on_less t y a empty (v.entries.on t y a);
    hands = λ j y a. hands_more j y a act none (v.entries.on s y a) (v.entries.hands j y a);
    unspent = λ y a. unspent_same y a (v.entries.unspent y a);
    spots = λ a. spots_same (x.spot a) (m.life a) (v.entries.spots a);
  }

pub has_left_written : (n i s : ℕ) (es : List Entry) (f : View) (m : State) (x : Extra) → Shows n f m x → m.head s ≡ Active es → m.loose i ≡ []
    → Written n i f m x (record f { heads = put f.heads s 2 }) (has_left m i s es) (left_off f x i s)
has_left_written n i s es f m x v act none = record {
  shows = record { entries = left_entries n i s 2 Idle es f m x v act none refl refl; linkage = v.linkage; lists = v.lists };
  keeps = record {
    rows = λ j ne. record { hand = grind arith; pends = refl; popped = refl; lefts = refl; put_first = refl };
    batches = λ j y ne k. record { rest = refl; aimed = refl; behind = refl };
    nexts = λ j a ne k. refl;
    firsts = λ j a ne k. refl;
    links = λ j a ne k. refl;
    spots = λ j a ne k. kept_spot n i s 2 Idle es f m x j (x.spot a) k;
    owns = λ j a ne k. record { own = λ d has. refl; lists = refl; drained = refl };
  };
}

pub refreshed_written : (n i s : ℕ) (es : List Entry) (f : View) (m : State) (x : Extra) → Shows n f m x → m.head s ≡ Active es → m.loose i ≡ []
    → Written n i f m x (record f { heads = put f.heads s 3 }) (refreshed m i s es) (left_off f x i s)
refreshed_written n i s es f m x v act none = record {
  shows = record { entries = left_entries n i s 3 (Active []) es f m x v act none refl refl; linkage = v.linkage; lists = v.lists };
  keeps = record {
    rows = λ j ne. record { hand = grind arith; pends = refl; popped = refl; lefts = refl; put_first = refl };
    batches = λ j y ne k. record { rest = refl; aimed = refl; behind = refl };
    nexts = λ j a ne k. refl;
    firsts = λ j a ne k. refl;
    links = λ j a ne k. refl;
    spots = λ j a ne k. kept_spot n i s 3 (Active []) es f m x j (x.spot a) k;
    owns = λ j a ne k. record { own = λ d has. refl; lists = refl; drained = refl };
  };
}

-- Errands. A seat that is on an errand has left a part of the token of the memory's lifetime, so as long as it is nobody has the memory to himself; a seat that is on
-- none rests. Rules speak of views alone, and know of no errands.
use Rattle.std.specs.Prelude.{◌≡◌, ◌⊎◌, ℕ, List, [], ◌∷◌, Option, Some, None, map, slice_get, slice_set}
use base.Stored.{Gv, Coded, coded×, coded_ℕ, coded_list, coded_via}
use base.SetCodes.{coded_share}
use Rattle.std.specs.Coded.{coded_option}
use base.Fml.{Lft, Share, Fml, ftrue, fsep, flft}
use Rattle.seize_words.specs.OneMemory.Op.{Out}
use Rattle.seize_seats.specs.Seats.State.{State, view_of, Goes}
use Rattle.seize_seats.specs.Seats.Seen.{fact, itself, seen}

-- a seat that is lent for an errand: its number, how what it knows is kept, and which share of that is left with the errand
pub record Aide : Type 0 where
  pub seat : ℕ
  pub view : Gv
  pub part : Share

-- Which seats are lent for an errand: each of these. `Anyone` is of none that there is: it stands where it is asked what would be so.
pub data Aided : Type 0 where
  These : List Aide → Aided
  Anyone : Aided

-- an errand: the part that is left of the token of the memory's lifetime, and who is lent
pub record Outing : Type 0 where
  pub part : Share
  pub aided : Aided

-- where a seat is on one
abbrev pub Away : Type 0
Away = Option Outing

-- the seat of this number is one of these
abbrev pub IsOneOf : List Aide → ℕ → Type 0
IsOneOf [] n = ⊥
IsOneOf (a ∷ xs) n = (a.seat ≡ n) ⊎ IsOneOf xs n

-- it is lent
abbrev pub IsAide : Aided → ℕ → Type 0
IsAide (These xs) n = IsOneOf xs n
IsAide Anyone n = Unit {0}

abbrev pub Lends : Away → ℕ → Type 0
Lends None n = ⊥
Lends (Some o) n = IsAide o.aided n

abbrev pub aide_of : Aide → ℕ × (Gv × Share)
aide_of a = (a.seat, (a.view, a.part))

pub aides_inj : (xs ys : List Aide) → map aide_of xs ≡ map aide_of ys → xs ≡ ys
aides_inj [] [] e = λ i. []
aides_inj [] (y ∷ ys) e = absurd (cc e)
aides_inj (x ∷ xs) [] e = absurd (cc e)
aides_inj (x ∷ xs) (y ∷ ys) e =
    let same : aide_of x ≡ aide_of y = cc e in let rest : xs ≡ ys = aides_inj xs ys (cc e) in
    λ i. record { seat = (same i).0; view = (same i).1.0; part = (same i).1.1 } ∷ rest i

abbrev pub aide_parts : Aided → Option (List (ℕ × (Gv × Share)))
aide_parts (These xs) = Some (map aide_of xs)
aide_parts Anyone = None

pub aide_parts_inj : (x y : Aided) → aide_parts x ≡ aide_parts y → x ≡ y
aide_parts_inj (These xs) (These ys) e = let same : xs ≡ ys = aides_inj xs ys (cc e) in λ i. These (same i)
aide_parts_inj (These xs) Anyone e = absurd (cc e)
aide_parts_inj Anyone (These xs) e = absurd (cc e)
aide_parts_inj Anyone Anyone e = λ i. Anyone

abbrev pub outing_of : Outing → Share × Option (List (ℕ × (Gv × Share)))
outing_of o = (o.part, aide_parts o.aided)

abbrev pub parts_left : Away → List (Share × Option (List (ℕ × (Gv × Share))))
parts_left None = []
parts_left (Some o) = (o.part, aide_parts o.aided) ∷ []

pub parts_left_inj : (x y : Away) → parts_left x ≡ parts_left y → x ≡ y
parts_left_inj None None e = λ i. None
parts_left_inj None (Some o) e = absurd (cc e)
parts_left_inj (Some o) None e = absurd (cc e)
parts_left_inj (Some o) (Some u) e =
    let same : outing_of o ≡ outing_of u = cc e in let aides : o.aided ≡ u.aided = aide_parts_inj o.aided u.aided (λ i. (same i).1) in
    λ i. Some record { part = (same i).0; aided = aides i }

abbrev pub away_coded : Coded Away
away_coded = coded_via (coded_list (coded× coded_share (coded_option (coded_list (coded× coded_ℕ (coded× itself coded_share)))))) parts_left parts_left_inj

-- How what a seat knows is kept, and what of it tells whether the seat is on an errand.
pub record ViewCode (V : Type 0) : Type 0 where
  pub code : V → Gv
  pub inj : (x y : V) → code x ≡ code y → x ≡ y
  pub away : V → Away

abbrev pub coded_of : {V : Type 0} → ViewCode V → Coded V
coded_of c = record { code = c.code; inj = c.inj }

-- of what a seat knows beside it
abbrev pub with_away : {V : Type 0} → Coded V → ViewCode (V × Away)
with_away c = record { code = (coded× c away_coded).code; inj = (coded× c away_coded).inj; away = λ u. u.1 }

-- what is left of the views of seats that are lent, in a ledger of this name
abbrev pub aide_shares : ℕ → List Aide → Fml
aide_shares γ [] = ftrue
aide_shares γ (a ∷ xs) = fsep (seen (λ (g : Gv). g) γ a.part a.seat a.view) (aide_shares γ xs)

abbrev pub aide_stake : ℕ → Aided → Fml
aide_stake γ (These xs) = aide_shares γ xs
aide_stake γ Anyone = fact ⊥

-- what a seat has left of the token of a lifetime, and what of a view
abbrev pub stake : Lft → ℕ → Away → Fml
stake α γ None = ftrue
stake α γ (Some o) = fsep (flft α o.part) (aide_stake γ o.aided)

-- what all of them have left
abbrev pub stakes : {V : Type 0} → Lft → ℕ → (V → Away) → List V → Fml
stakes α γ away [] = ftrue
stakes α γ away (v ∷ vs) = fsep (stake α γ (away v)) (stakes α γ away vs)

-- it is on the errand that it was on
abbrev pub StaysSo : {V : Type 0} → (V → Away) → V → (V → Type 0) → Type 0
StaysSo {V} away v so = (w : V) → so w → away w ≡ away v

-- the same, whatever an operation answers
abbrev pub StayAllSo : {T V : Type 0} → (V → Away) → V → (Out T → V → Type 0) → Type 0
StayAllSo {T} {V} away v so = (out : Out T) → StaysSo away v (so out)

-- a seat is lent to nobody
abbrev pub AreUnlent : {V : Type 0} → (V → Away) → ℕ → List V → Type 0
AreUnlent {V} away n vs = (id : ℕ) (v : V) → slice_get vs id ≡ Some v → Lends (away v) n → ⊥

-- nobody is on an errand
abbrev pub AreAllBack : {V : Type 0} → (V → Away) → List V → Type 0
AreAllBack {V} away vs = (id : ℕ) (v : V) → slice_get vs id ≡ Some v → away v ≡ None

module _ {T V W : Type 0} where
  -- the state as rules see it
  abbrev pub inward : State T (V × Away) W → State T V W
  inward s = record { memory = s.memory; views = map (λ (u : V × Away). u.0) s.views; world = s.world }

  -- who is on no errand rests
  abbrev pub AreResting : (V → Type 0) → State T (V × Away) W → Type 0
  AreResting rests s = (id : ℕ) (v : V) → view_of s id ≡ Some (v, None) → rests v

  -- who leans on a seat is on an errand that is lent it
  abbrev pub AreLeaning : (V → ℕ → Type 0) → State T (V × Away) W → Type 0
  AreLeaning leans s = (id : ℕ) (u : V × Away) (n : ℕ) → view_of s id ≡ Some u → leans u.0 n → Lends u.1 n

  -- what holds between any two steps, where a rule does
  abbrev pub HoldsAway : (V → Type 0) → (V → ℕ → Type 0) → (State T V W → Type 0) → State T (V × Away) W → Type 0
  HoldsAway rests leans holds s = holds (inward s) × AreResting rests s × AreLeaning leans s

  -- no seat leans on one
  abbrev pub IsUnlent : (V → ℕ → Type 0) → ℕ → State T V W → Type 0
  IsUnlent leans n s = (id : ℕ) (v : V) → view_of s id ≡ Some v → leans v n → ⊥

  -- a step without an operation, of a seat on which nobody leans
  abbrev pub TurnsUnlent : (State T V W → Type 0) → (V → V → W → ℕ → Type 0) → (V → ℕ → Type 0) → ℕ → V → (V → Type 0) → Type 0
  TurnsUnlent holds keeps leans id v so =
      (s : State T V W) → holds s → view_of s id ≡ Some v → IsUnlent leans id s → Goes holds keeps s s.memory id so

  -- all seats rest
  abbrev pub AreIdle : (V → Type 0) → State T V W → Type 0
  AreIdle rests s = (id : ℕ) (v : V) → view_of s id ≡ Some v → rests v

-- The rule holds of the memory as it is with no seat, where nobody is on an errand.
abbrev pub RenewsBack : {T V W : Type 0} → (V → Away) → (State T V W → Type 0) → Type 0
RenewsBack {T} {V} {W} away holds = (s : State T V W) → holds s → AreAllBack away s.views → (w : W) × holds record { memory = s.memory; views = []; world = w }

-- Where all seats rest, a rule, the same or another one, holds after that of the memory as it is with seats that know this, and no other ones.
abbrev pub RenewsTo : {T V W V' W' : Type 0} → (V → Type 0) → (State T V W → Type 0) → (State T V' W' → Type 0) → List V' → Type 0
RenewsTo {T} {V} {W} {V'} {W'} rests holds after vs =
    (s : State T V W) → holds s → AreIdle rests s → (w : W') × after record { memory = s.memory; views = vs; world = w }

-- with no seat, and under the same rule
abbrev pub RenewsIdle : {T V W : Type 0} → (V → Type 0) → (State T V W → Type 0) → Type 0
RenewsIdle rests holds = RenewsTo rests holds holds []

-- with no seat, where it is known of one what it knew
abbrev pub RenewsFrom : {T V W V' W' : Type 0} → (V → Type 0) → (State T V W → Type 0) → (State T V' W' → Type 0) → ℕ → V → Type 0
RenewsFrom {T} {V} {W} {V'} {W'} rests holds after id v =
    (s : State T V W) → holds s → view_of s id ≡ Some v → AreIdle rests s → (w : W') × after record { memory = s.memory; views = []; world = w }

-- with the same seats, where it is known of one what it knew: that one knows this, and each other one what its view goes over into
abbrev pub RenewsInto : {T V W V' W' : Type 0} → (V → Type 0) → (State T V W → Type 0) → (State T V' W' → Type 0) → ℕ → V → (V → V') → V' → Type 0
RenewsInto {T} {V} {W} {V'} {W'} rests holds after id v left heir =
    (s : State T V W) → holds s → view_of s id ≡ Some v → AreIdle rests s
    → (w : W') × after record { memory = s.memory; views = slice_set (map left s.views) id heir; world = w }

-- an errand keeps nothing of its own
abbrev pub keeps_away : {V W : Type 0} → (V → V → W → ℕ → Type 0) → V × Away → V × Away → W → ℕ → Type 0
keeps_away keeps u o w b = keeps u.0 o.0 w b

-- what an operation tells a seat, which is on the errand that it was on
abbrev pub then_away : {T V : Type 0} → Away → (Out T → V → Type 0) → Out T → V × Away → Type 0
then_away e so out u = so out u.0 × (u.1 ≡ e)

-- A seat that is on no errand, and rests, rests then, too.
abbrev pub MayGo : {V : Type 0} → (V → Type 0) → Away → V → (V → Type 0) → Type 0
MayGo {V} rests e v so = e ≡ None → rests v → (w : V) → so w → rests w

-- It leans on no seat more, but on those that its errand is lent.
abbrev pub MayLean : {V : Type 0} → (V → ℕ → Type 0) → Away → V → (V → Type 0) → Type 0
MayLean {V} leans e v so = (w : V) → so w → (n : ℕ) → leans w n → leans v n ⊎ Lends e n

abbrev pub MayLeanAll : {T V : Type 0} → (V → ℕ → Type 0) → Away → V → (Out T → V → Type 0) → Type 0
MayLeanAll {T} leans e v so = (out : Out T) → MayLean leans e v (so out)

abbrev pub MayGoAll : {T V : Type 0} → (V → Type 0) → Away → V → (Out T → V → Type 0) → Type 0
MayGoAll {T} rests e v so = (out : Out T) → MayGo rests e v (so out)

-- and two seats
abbrev pub MayMeet : {V : Type 0} → (V → Type 0) → Away → V → Away → V → (V → V → Type 0) → Type 0
MayMeet {V} rests e v f u so = (v' u' : V) → so v' u' → (e ≡ None → rests v → rests v') × (f ≡ None → rests u → rests u')

abbrev pub MayLeanBoth : {V : Type 0} → (V → ℕ → Type 0) → Away → V → Away → V → (V → V → Type 0) → Type 0
MayLeanBoth {V} leans e v f u so =
    (v' u' : V) → so v' u' → ((n : ℕ) → leans v' n → leans v n ⊎ Lends e n) × ((n : ℕ) → leans u' n → leans u n ⊎ Lends f n)

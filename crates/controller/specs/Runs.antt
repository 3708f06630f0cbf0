-- A run of the controller: a step for each status, one after the other, on a book whose bytes stay as they are (REFERENCE, "Controller").
-- Assumes nothing.
use Rattle.std.specs.Prelude.{◌≡◌, ℕ, ◌<◌, ◌≤◌, Bool, cond, false, true, List, [], ◌++◌, ◌∷◌, eqb, get_or, length, take, None, Some, Err, Ok}
use Rattle.book.specs.Book.{Read, opened_for}
use Rattle.controller.specs.declared.State.{State}
use Rattle.controller.specs.declared.State.TheVariants as state
use Rattle.controller.specs.Controller.{Answer, Turn, heard_of, is_good, sending_of}

-- the frame that a step sends, if it sends any byte
abbrev pub handed : Turn → List (List ℕ)
handed (Ok (Some s)) = cond (eqb s.len 0) [] (take s.len s.frame ∷ [])
handed (Ok None) = []
handed (Err x) = []

-- the state that a caller has behind an answer: a refusal keeps it
abbrev pub kept : State → Answer → State
kept st (Ok next) = next
kept st (Err x) = st

pub record Run : Type 0 where
  pub sent : List (List ℕ)
  pub state : State

-- done or stopped
abbrev pub is_ended : State → Bool
is_ended (state.Running sent) = false
is_ended state.Done = true
is_ended (state.Stopped p) = true

-- A step is a send and then a hear, by their contracts; a run takes a step for each status.
unfoldable pub run : List ℕ → State → List (List ℕ) → Run
run b st [] = record { sent = []; state = st }
run b st (s ∷ ss) =
    record {
      sent = handed (sending_of (opened_for Read b) st)
          ++ (run b (kept st (heard_of (opened_for Read b) st (is_good s))) ss).sent;
      state = (run b (kept st (heard_of (opened_for Read b) st (is_good s))) ss).state;
    }

-- Frame p of n, counted from 1, is the first that its status says went wrong. The status of step k judges frame k - 1, so the one that judges
-- frame p is behind p others.
pub record FirstBad (n : ℕ) (ss : List (List ℕ)) (p : ℕ) : Type 0 where
  pub low : 1 ≤ p
  pub high : p ≤ n
  pub judged : p < length ss
  pub wrong : is_good (get_or ss p []) ≡ false
  pub earlier : (i : ℕ) → 1 ≤ i → i < p → is_good (get_or ss i []) ≡ true

-- No status says of a frame that it went wrong.
pub record NoneBad (n : ℕ) (ss : List (List ℕ)) : Type 0 where
  pub all : (i : ℕ) → 1 ≤ i → i ≤ n → i < length ss → is_good (get_or ss i []) ≡ true

-- What the front's functions say of what they answer and of the buffers that they are lent: how many bytes, and what of them is as it was. Which bytes
-- come is the system's (DESIGN, "The layers").
-- Assumes nothing.
use Rattle.std.specs.Prelude.{ℕ, ◌-◌, ◌<◌, ◌≤◌, ◌≡◌, cond, ◌&&◌, List, [], leb, ltb, pos, Option, None, Some, IfSome, Result, IfOk, drop, length, set, take}
use Rattle.std.specs.declared.io.Error.{Error}
use Rattle.arguments.specs.declared.Inputs.{Inputs}
use Rattle.arguments.specs.declared.Place.{Place}
use Rattle.arguments.specs.declared.Place.TheVariants.{Argument, StandardInput}
use Rattle.front.specs.declared.Content.{Content}
use Rattle.front.specs.declared.Fetched.{Fetched}
use Rattle.front.specs.declared.Input.{Input}

-- ---- the arguments

-- Where there is work to do, the mark is one of the arguments that were given, or there is none.
abbrev pub Asks : Option Inputs → Type 0
Asks r = IfSome r (λ x. IfSome x.mark (λ m. (0 < m) × (m ≤ x.given)))

-- ---- an input

-- Standard input, which is descriptor 0, under a name of n bytes.
abbrev pub standard_input : ℕ → Input
standard_input n = record { fd = pos 0; name = n; file = None }

-- Its own name is `-`, the byte 45, where the buffer has room for that.
unfoldable pub called : List ℕ → List ℕ
called s = set s 0 45

unfoldable pub standard_in : List ℕ → Option Input
standard_in s = cond (ltb 0 (length s)) (Some (standard_input 1)) None

-- So many bytes at the front of the buffer are the name of an input that is opened, and the buffer keeps its length.
pub record Opening (s t : List ℕ) (r : Option Input) : Type 0 where
  pub named : IfSome r (λ i. i.name ≤ length t)
  pub long : length t ≡ length s

-- What opening the input at a place leaves. Which file an argument names, and whether it is there, is the system's. Standard input is there, where the
-- buffer has room for its name. Where there is no input nothing is opened, and the buffer is as it was.
unfoldable pub Opens : Option Place → List ℕ → List ℕ → Option Input → Type 0
Opens (Some (Argument k)) s t r = Unit
Opens (Some StandardInput) s t r = (r ≡ standard_in s) × (t ≡ called s)
Opens None s t r = (r ≡ None) × (t ≡ s)

-- ---- reading

-- The bytes of a buffer from one place up to another; none where there are no such places.
unfoldable pub span_of : List ℕ → ℕ → ℕ → List ℕ
span_of s from have = cond (leb from have && leb have (length s)) (take (have - from) (drop from s)) []

-- What a read leaves that is to keep the bytes ks: they stand at the front, also where the read failed, what came stands behind them, and the buffer keeps
-- its length. More may follow exactly if something came.
pub record Fetches (ks s t : List ℕ) (r : Result Fetched Error) : Type 0 where
  pub front : take (length ks) t ≡ ks
  pub least : IfOk r (λ f. length ks ≤ f.have)
  pub most : IfOk r (λ f. f.have ≤ length t)
  pub long : length t ≡ length s
  pub more : IfOk r (λ f. f.more ≡ ltb (length ks) f.have)

-- ---- an input read whole

-- of no input nothing is read
abbrev pub unread : Option Content
unread = None

-- What reading leaves of an input that was opened or not: its name has as many bytes as it had, so many bytes of the buffer were read, and that keeps its
-- length. Where none was opened nothing is read, and the buffer is as it was.
pub record Drawn (i : Option Input) (b d : List ℕ) (r : Option Content) : Type 0 where
  pub named : IfSome r (λ c. IfSome i (λ x. c.name ≡ x.name))
  pub most : IfSome r (λ c. c.have ≤ length d)
  pub whole : length d ≡ length b
  pub unfound : i ≡ None → (r ≡ None) × (d ≡ b)

-- So many bytes at the front of the one buffer are the name of an input that was read, so many of the other were read, and both keep their lengths.
pub record Reading (s t b d : List ℕ) (r : Option Content) : Type 0 where
  pub named : IfSome r (λ c. c.name ≤ length t)
  pub long : length t ≡ length s
  pub most : IfSome r (λ c. c.have ≤ length d)
  pub whole : length d ≡ length b

-- What reading the input at a place leaves: of standard input what it leaves of one that was opened; where there is none, both buffers are as they were.
unfoldable pub Reads : Option Place → List ℕ → List ℕ → List ℕ → List ℕ → Option Content → Type 0
Reads (Some (Argument k)) s t b d r = Unit
Reads (Some StandardInput) s t b d r = Drawn (standard_in s) b d r × (t ≡ called s)
Reads None s t b d r = (r ≡ unread) × (t ≡ s) × (d ≡ b)

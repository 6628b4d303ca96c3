-- What a list of words replies to requests, and what the requests leave. Nothing but the words is spoken of: stores that mean equal
-- words reply alike, whatever their make.
use Rattle.std.specs.Prelude.{ℕ, List, [], ◌∷◌, length, Some, None, Ok, Err, Option, Result, slice_set}
use Rattle.std.specs.List.{slice_get}
use Rattle.stores.specs.declared.access.Access.{Access}
use Rattle.stores.specs.declared.access.Access.TheVariants.{Size as AskSize, Load, Put}
use Rattle.stores.specs.declared.access.Reply.{Reply}
use Rattle.stores.specs.declared.access.Reply.TheVariants.{Size, Word, Done}
use Rattle.stores.specs.declared.store.NoSuchCell.{NoSuchCell}
use Rattle.stores.specs.Answers.{no_such_cell}

-- What a load replies, by the word of the cell: the word, or a refusal where there is no such cell.
abbrev pub load_reply : Option ℕ → Result Reply NoSuchCell
load_reply (Some word) = Ok (Word word)
load_reply None = Err no_such_cell

-- What a put replies, by the word of the cell before it: it is done, or refused where there is no such cell.
abbrev pub put_reply : Option ℕ → Result Reply NoSuchCell
put_reply (Some word) = Ok Done
put_reply None = Err no_such_cell

-- The reply to one request.
abbrev pub reply : List ℕ → Access → Result Reply NoSuchCell
reply words AskSize = Ok (Size (length words))
reply words (Load at) = load_reply (slice_get words at)
reply words (Put at word) = put_reply (slice_get words at)

-- The words after one request: only a put changes one, and none where there is no such cell.
abbrev pub after : List ℕ → Access → List ℕ
after words AskSize = words
after words (Load at) = words
after words (Put at word) = slice_set words at word

-- The replies to requests that are made in order.
abbrev pub replies : List ℕ → List Access → List (Result Reply NoSuchCell)
replies words [] = []
replies words (request ∷ requests) = reply words request ∷ replies (after words request) requests

-- The words after all of them.
abbrev pub after_all : List ℕ → List Access → List ℕ
after_all words [] = words
after_all words (request ∷ requests) = after_all (after words request) requests

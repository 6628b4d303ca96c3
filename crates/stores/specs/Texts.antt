-- What replies and a refusal are printed as.
use Rattle.std.specs.Prelude.{ℕ, List, ◌++◌, codes}
use Rattle.std.specs.Fmt.{decimal}
use Rattle.stores.specs.declared.access.Reply.{Reply}
use Rattle.stores.specs.declared.access.Reply.TheVariants.{Size, Word, Done}

abbrev pub reply_text : Reply → List ℕ
reply_text (Size size) = codes "size " ++ decimal size
reply_text (Word word) = codes "word " ++ decimal word
reply_text Done = codes "done"

abbrev pub refusal_text : List ℕ
refusal_text = codes "refused"

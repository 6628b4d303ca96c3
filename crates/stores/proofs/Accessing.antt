-- Replies to requests, one more at a time.
use Rattle.std.proofs.Common.{◌≡◌, ℕ, suc, ◌+◌, ◌<◌, Bool, ◌&&◌, List, [], ◌∷◌, ◌++◌, length, get_or, take, drop, set, Decides, Result, sym, refl, ap, ◌∙◌, append_assoc, arith, length-take}
use Rattle.std.proofs.lemmas.List.{get_or-take, take_more, drop_more, set_at, same_from_push}
use Rattle.std.proofs.lemmas.Bool.Decides.{Decides-and}
use Rattle.stores.specs.declared.access.Access.{Access}
use Rattle.stores.specs.declared.access.Reply.{Reply}
use Rattle.stores.specs.declared.store.NoSuchCell.{NoSuchCell}
use Rattle.stores.specs.Accesses.{reply, after, replies, after_all}

-- a place in the front of a list is a place in the list, and has what it has there
pub of_front : (n i : ℕ) (qs : List Access) (d : Access) → i < length (take n qs) → (i < n) × (i < length qs) × (get_or (take n qs) i d ≡ get_or qs i d)
of_front n i qs d h =
    let below : i < n = omega (arith, length-take n qs) in (below, omega (arith, length-take n qs), get_or-take n qs i d below)

after_all-++ : (words : List ℕ) (qs rs : List Access) → after_all words (qs ++ rs) ≡ after_all (after_all words qs) rs
after_all-++ words [] rs = refl
after_all-++ words (q ∷ qs) rs = after_all-++ (after words q) qs rs

replies-++ : (words : List ℕ) (qs rs : List Access) → replies words (qs ++ rs) ≡ replies words qs ++ replies (after_all words qs) rs
replies-++ words [] rs = refl
replies-++ words (q ∷ qs) rs = ap (λ l. reply words q ∷ l) (replies-++ (after words q) qs rs)

length_replies : (words : List ℕ) (qs : List Access) → length (replies words qs) ≡ length qs
length_replies words [] = refl
length_replies words (q ∷ qs) = ap suc (length_replies (after words q) qs)

-- the words after one request more
after_more :
    (words : List ℕ) (qs : List Access) (i : ℕ) (d : Access)
    → i < length qs
    → after_all words (take (i + 1) qs) ≡ after (after_all words (take i qs)) (get_or qs i d)
after_more words qs i d h = ap (after_all words) (take_more qs i d h) ∙ after_all-++ words (take i qs) (get_or qs i d ∷ [])

-- the replies with one more
replies_more :
    (words : List ℕ) (qs : List Access) (i : ℕ) (d : Access)
    → i < length qs
    → replies words (take (i + 1) qs) ≡ replies words (take i qs) ++ reply (after_all words (take i qs)) (get_or qs i d) ∷ []
replies_more words qs i d h = ap (replies words) (take_more qs i d h) ∙ replies-++ words (take i qs) (get_or qs i d ∷ [])

-- a store that stood after the first i requests stands after one more once it has made the next
pub stands_more :
    (words before now : List ℕ) (qs : List Access) (i : ℕ) (d : Access)
    → i < length qs
    → before ≡ after_all words (take i qs)
    → now ≡ after before (get_or qs i d)
    → now ≡ after_all words (take (i + 1) qs)
stands_more words before now qs i d h e n = n ∙ ap (λ ws. after ws (get_or qs i d)) e ∙ sym (after_more words qs i d h)

-- the next of a list of values, written behind those before it
pub next_written :
    {X : Type 0} (front old : List X) (i : ℕ) (x : X)
    → length front ≡ i
    → i < length old
    → set (front ++ drop i old) i x ≡ (front ++ x ∷ []) ++ drop (i + 1) old
next_written front old i x e h =
    ap (λ l. set (front ++ l) i x) (drop_more old i x h)
    ∙ set_at front (get_or old i x) (drop (i + 1) old) x i e
    ∙ sym (append_assoc front (x ∷ []) (drop (i + 1) old))

-- the reply to one request more, written behind those before it
pub written_more :
    (words before : List ℕ) (qs : List Access) (old new : List (Result Reply NoSuchCell)) (i : ℕ) (d : Access) (r : Result Reply NoSuchCell)
    → i < length qs
    → i < length old
    → before ≡ after_all words (take i qs)
    → new ≡ replies words (take i qs) ++ drop i old
    → r ≡ reply before (get_or qs i d)
    → set new i r ≡ replies words (take (i + 1) qs) ++ drop (i + 1) old
written_more words before qs old new i d r h k e n a =
    let told = a ∙ ap (λ ws. reply ws (get_or qs i d)) e in
    let long : length (replies words (take i qs)) ≡ i = length_replies words (take i qs) ∙ (let t = length-take i qs in omega arith) in
    ap (λ l. set l i r) n
    ∙ next_written (replies words (take i qs)) old i r long k
    ∙ ap (λ x. (replies words (take i qs) ++ x ∷ []) ++ drop (i + 1) old) told
    ∙ ap (λ l. l ++ drop (i + 1) old) (sym (replies_more words qs i d h))

-- two lists of replies are the same with one more exactly where they were the same and the two more are
pub same_more :
    (ours theirs ahead behind : List ℕ) (qs : List Access) (i : ℕ) (d : Access) (one other : Result Reply NoSuchCell) (same matched : Bool)
    → i < length qs
    → ahead ≡ after_all ours (take i qs)
    → behind ≡ after_all theirs (take i qs)
    → one ≡ reply ahead (get_or qs i d)
    → other ≡ reply behind (get_or qs i d)
    → Decides same (replies ours (take i qs) ≡ replies theirs (take i qs))
    → Decides matched (one ≡ other)
    → Decides (same && matched) (replies ours (take (i + 1) qs) ≡ replies theirs (take (i + 1) qs))
same_more ours theirs ahead behind qs i d one other same matched h e f a b s m =
    let both = Decides-and same matched s m in
    let mine = replies_more ours qs i d h ∙ ap (λ x. replies ours (take i qs) ++ x ∷ []) (sym (a ∙ ap (λ ws. reply ws (get_or qs i d)) e)) in
    let yours = replies_more theirs qs i d h ∙ ap (λ x. replies theirs (take i qs) ++ x ∷ []) (sym (b ∙ ap (λ ws. reply ws (get_or qs i d)) f)) in (
      λ t. mine ∙ (λ j. (both.0 t).0 j ++ (both.0 t).1 j ∷ []) ∙ sym yours,
      λ p. both.1 (same_from_push (replies ours (take i qs)) (replies theirs (take i qs)) one other (sym mine ∙ p ∙ yours)),
    )

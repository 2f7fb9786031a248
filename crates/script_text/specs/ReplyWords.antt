-- Words of replies that scripts of every kind have.
use Rattle.std.specs.Prelude.{ℕ, List, ◌++◌, codes, decimal}
use Rattle.std.specs.List.{flat_map}
use Rattle.ghes_ack.specs.declared.events.Event.{Event}
use Rattle.ghes_ack.specs.declared.events.Event.TheVariants.{Idle, Fill, Publish, Free, Wait, Nothing, Found, Copied, Took, Clear, Ack}

abbrev pub refused : List ℕ → List ℕ
refused words = codes "refused " ++ words

-- the word of each turn's event
abbrev pub word_of : Event → List ℕ
word_of Idle = codes "idle"
word_of Fill = codes "fill"
word_of Publish = codes "publish"
word_of Free = codes "free"
word_of Wait = codes "wait"
word_of Nothing = codes "nothing"
word_of Found = codes "found"
word_of Copied = codes "copy"
word_of Took = codes "took"
word_of Clear = codes "clear"
word_of Ack = codes "ack"

abbrev pub words_of_turns : List Event → List ℕ
words_of_turns events = codes "turns" ++ flat_map (λ (event : Event). codes " " ++ word_of event) events

-- how often each listener has heard of an error, in their order
abbrev pub words_of_heard : List ℕ → List ℕ
words_of_heard counts = codes "heard" ++ flat_map (λ (n : ℕ). codes " " ++ decimal n) counts

-- What the streams of a program show: of its input what a source shows, and of its output what a page shows.
use Rattle.std.specs.Prelude.{ℕ, List, Result}
use Rattle.page.specs.declared.errors.SystemError.{SystemError}
use Rattle.page.specs.Page
use Rattle.input.specs.declared.source.Coming.{Coming}
use Rattle.input.specs.declared.streams.Streams.{Streams}
use Rattle.input.specs.Source

abbrev pub unused_of : {IN OUT : ℕ} → Streams IN OUT → List ℕ
unused_of streams = Source.unused_of streams.source

abbrev pub read_of : {IN OUT : ℕ} → Streams IN OUT → ℕ
read_of streams = Source.read_of streams.source

abbrev pub place_of : {IN OUT : ℕ} → Streams IN OUT → ℕ
place_of streams = Source.place_of streams.source

abbrev pub reading_of : {IN OUT : ℕ} → Streams IN OUT → Result Coming SystemError
reading_of streams = Source.reading_of streams.source

abbrev pub waiting_of : {IN OUT : ℕ} → Streams IN OUT → List ℕ
waiting_of streams = Page.waiting_of streams.page

abbrev pub writing_of : {IN OUT : ℕ} → Streams IN OUT → Result Unit SystemError
writing_of streams = Page.writing_of streams.page

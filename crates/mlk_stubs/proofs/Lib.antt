pub mod StubLemmas

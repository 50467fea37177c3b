pub mod StubTexts

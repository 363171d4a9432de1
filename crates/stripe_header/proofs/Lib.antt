pub mod CopyLaws
pub mod SpanLaws

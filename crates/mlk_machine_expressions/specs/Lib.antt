pub mod PartViews

mod FirstText
